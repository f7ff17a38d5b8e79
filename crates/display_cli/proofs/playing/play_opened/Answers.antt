-- The watchers of an opened owner look at the board of its readers, or there was no memory to make them.
use Rattle.std.proofs.Common.{◌≡◌, ◌≤◌, ◌∙◌, List, [], All, Option, Some, None, length, map, refl, sym, ap, subst, arith}
use Rattle.std.proofs.lemmas.List.Elements.{All-nil}
use Rattle.logbook.specs.Pages.{Book}
use Rattle.version_board.specs.Known.{Known}
use Rattle.board_watch.specs.Watching.{Watching}
use Rattle.display_cli.specs.inside.Left.{AreBoards, board_of, boards_of}
use Rattle.display_cli.proofs.Opened.{are-boards, team-count, watchers-boards}
use Rattle.script_runner.proofs.Results.{on-ok}
use Rattle.display_cli.proofs.playing.play_opened.Goals as goal

-- nobody looks at a board
none-look : (board : Option Book) (team : List Watching) → team ≡ [] → AreBoards board (boards_of team)
none-look None team none = let P : List Watching → Type 0 = λ l. AreBoards None (boards_of l) in subst P (sym none) refl
none-look (Some b) team none =
    let P : List Watching → Type 0 = λ l. AreBoards (Some b) (boards_of l) in subst P (sym none) (All-nil (λ x. x ≡ b))

pub returns-in-Ok-clause-team : goal.returns-in-Ok-clause-team
returns-in-Ok-clause-team g c =
    let many : length c.play_with-left.new.watchers.items ≡ length c.args.opened.readers.items =
    team-count c.play_with-left.new.watchers.items (boards_of c.in-Ok.team.items) c.args.opened.readers.items c.play_with-left.ensures.team
    (watchers-boards c.in-Ok.team.items c.args.opened.readers.items c.in-Ok.ensures.known) in
    let same : c.play_with-left.new.watchers.len ≡ c.args.opened.readers.len =
    omega (arith, many, c.play_with-left.new.watchers.ok.0, c.args.opened.readers.ok.0) in
    record {
      boards = are-boards (board_of c.play_with-left.result.writer) (board_of c.args.opened.owner.writer) (boards_of c.play_with-left.new.watchers.items)
          (boards_of c.in-Ok.team.items) (map (λ (k : Known). k.board) c.args.opened.readers.items) c.play_with-left.ensures.left.board
          c.play_with-left.ensures.team (watchers-boards c.in-Ok.team.items c.args.opened.readers.items c.in-Ok.ensures.known) c.requires.unplayed.readers;
      few = omega (arith, same);
      all = on-ok c.play_with-left.result.played (c.play_with-left.new.watchers.len ≡ c.args.opened.readers.len) same;
    }

pub returns-in-Err-clause-team : goal.returns-in-Err-clause-team
returns-in-Err-clause-team g c =
    let empty : length c.new.result.items ≡ 0 = ap length c.new.ensures.items in
    record {
      boards = none-look (board_of c.dismiss-display.result.1) c.new.result.items c.new.ensures.items;
      few = omega (arith, empty, c.new.result.ok.0);
      all = tt;
    }
