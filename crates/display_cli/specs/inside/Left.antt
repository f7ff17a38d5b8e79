-- What is left where a script was played by an owner.
use Rattle.std.specs.Prelude.{ℕ, ◌≡◌, ◌<◌, ◌≤◌, All, List, [], length, map, Option, Some, None, IfSome, OnOk, vec_len}
use Rattle.std.specs.Option.{option_map}
use Rattle.std.specs.declared.alloc.Global.{Global}
use Rattle.std.specs.declared.vec.Vec.{Vec}
use Rattle.logbook.specs.Pages.{Book}
use Rattle.version_board.specs.Known.{Known}
use Rattle.board_watch.specs.Watching.{Watching}
use Rattle.display_map.specs.Events.{event_limit}
use Rattle.live_display.specs.declared.owner.Owner.{Owner}
use Rattle.live_display.specs.declared.opening.Opened.{Opened}
use Rattle.display_cli.specs.declared.beside.Left.{Left}
use Rattle.script_runner.specs.Outside.{SinkState}
use Rattle.script_runner.specs.Going.{IsReady, PlaysBy, at}

-- which board a writer has, if there is one
abbrev pub board_of : Option Known → Option Book
board_of writer = option_map (λ w. w.board) writer

-- a script was played by an owner, its answers were written to a sink, or with a make their summary, and its last version is
-- shown on the board, if there is one
pub record HasLeftBy (make : Option ℕ) (script : List ℕ) (owner : Owner) (sink after : SinkState) (left : Left) : Type 0 where
  pub played : PlaysBy make owner.crew.workers script (at owner.display sink) (at left.display after) left.played
  pub board : board_of left.writer ≡ board_of owner.writer
  pub shown : OnOk left.played (IfSome left.writer (λ writer. writer.newest ≡ left.display))

-- ... its answers
abbrev pub HasLeft : List ℕ → Owner → SinkState → SinkState → Left → Type 0
HasLeft = HasLeftBy None

-- the boards that watchers look at
abbrev pub boards_of : List Watching → List Book
boards_of team = map (λ w. w.known.board) team

-- all of these boards are the one, and without one there are none of them
abbrev pub AreBoards : Option Book → List Book → Type 0
AreBoards None boards = boards ≡ []
AreBoards (Some board) boards = All (λ b. b ≡ board) boards

-- there is an owner that is ready
abbrev pub IsReadyAt : Option Owner → Type 0
IsReadyAt None = ⊥
IsReadyAt (Some owner) = IsReady owner

-- the script was played by the owner that there was
abbrev pub Leaves : List ℕ → Option Owner → SinkState → SinkState → Option Left → Type 0
Leaves script (Some owner) sink after (Some left) = HasLeft script owner sink after left
Leaves script _ sink after _ = ⊥

-- the journal of an opened display has room, and each reader is one of its board
pub record IsUnplayed (opened : Opened) : Type 0 where
  pub room : length opened.owner.display.events < event_limit
  pub readers : AreBoards (board_of opened.owner.writer) (map (λ reader. reader.board) opened.readers.items)

-- watchers of what is left: they look at its board, and there is one for each reader, or fewer where the play stopped
pub record AreWatchers (opened : Opened) (left : Left) (team : Vec Watching Global) : Type 0 where
  pub boards : AreBoards (board_of left.writer) (boards_of team.items)
  pub few : vec_len team ≤ vec_len opened.readers
  pub all : OnOk left.played (vec_len team ≡ vec_len opened.readers)
