-- A run whose owner was opened, from its opening to its last watch line.
use Rattle.std.proofs.Common.{◌≡◌, ℕ, ◌<◌, ◌≤◌, inl, inr, false, All, List, [], ◌∷◌, ◌++◌, length, map, Option, Some, None, Result, Ok, Err, refl, sym, ap, ◌∙◌, subst, arith}
use Rattle.std.specs.Prelude.{IfSome, OnOk, replicate}
use Rattle.std.proofs.lemmas.List.{length-map, length-replicate}
use Rattle.std.proofs.lemmas.List.Elements.{All-nil, All-cons, All-head, All-tail, All-map, All-replicate}
use Rattle.logbook.specs.Pages.{Book}
use Rattle.display_map.specs.Events.{Event, Published, event_limit}
use Rattle.display_map.specs.LawfulStates.{IsLawfulHistory}
use Rattle.display_map.specs.Replay.{History, versions_of}
use Rattle.version_board.specs.Known.{Known}
use Rattle.live_display.specs.declared.owner.Owner.{Owner}
use Rattle.live_display.specs.declared.opening.Opened.{Opened}
use Rattle.live_display.specs.Owned.{HasOpened, IsSameTeam, IsUnopened}
use Rattle.board_watch.specs.declared.seen.Seen.{Seen}
use Rattle.board_watch.specs.Watching.{Watching}
use Rattle.command_line.specs.declared.plan.Plan.{Plan}
use Rattle.display_cli.specs.declared.ended.Note.{Note}
use Rattle.script_runner.specs.declared.stop.Stop.{Stop}
use Rattle.script_runner.specs.declared.tally.Tally.{Tally}
use Rattle.display_cli.specs.declared.beside.Left.{Left}
use Rattle.script_runner.specs.Outside.{SinkState}
use Rattle.script_runner.specs.Entries.{numbered_lines}
use Rattle.script_runner.specs.Legal.{history_of}
use Rattle.script_runner.specs.Output.{no_lines}
use Rattle.script_runner.specs.Course.{Course}
use Rattle.script_runner.specs.Going.{Stage, IsGoing, IsReady, IsUnsent, HasEnded, PlaysAll, at}
use Rattle.display_cli.specs.inside.Left.{AreBoards, HasLeft, HasLeftBy, board_of}
use Rattle.display_cli.specs.inside.Opening.{EndsWatch, HasRun, IsNoteOf}
use Rattle.script_runner.proofs.Played.{going-fresh, room-fresh}
use Rattle.script_runner.proofs.Unsettled.{unsent-opened}
use Rattle.display_cli.proofs.Headline.{run-watched}

-- ---- boards

pub boards-all : {X : Type 0} (f : X → Book) (board : Book) (xs : List X) → All (λ b. b ≡ board) (map f xs) → All (λ x. f x ≡ board) xs
boards-all f board [] all = All-nil (λ x. f x ≡ board)
boards-all f board (x ∷ xs) all =
    All-cons (λ x. f x ≡ board) x xs (All-head (λ b. b ≡ board) (f x) (map f xs) all) (boards-all f board xs (All-tail (λ b. b ≡ board) (f x) (map f xs) all))

boards-replicate : (known : Known) (n : ℕ) → All (λ b. b ≡ known.board) (map (λ k. k.board) (replicate n known))
boards-replicate known n = All-map (λ b. b ≡ known.board) (λ (k : Known). k.board) (replicate n known) (All-replicate (λ k. k.board ≡ known.board) n known refl)

-- the boards of watchers are those of what they know
boards-known : (team : List Watching) → map (λ w. w.known.board) team ≡ map (λ k. k.board) (map (λ w. w.known) team)
boards-known [] = refl
boards-known (w ∷ team) = ap (λ l. w.known.board ∷ l) (boards-known team)

pub watchers-boards : (team : List Watching) (readers : List Known) → map (λ w. w.known) team ≡ readers
    → map (λ w. w.known.board) team ≡ map (λ k. k.board) readers
watchers-boards team readers e = boards-known team ∙ ap (map (λ k. k.board)) e

pub are-boards : (o p : Option Book) (new old readers : List Book) → o ≡ p → new ≡ old → old ≡ readers → AreBoards p readers → AreBoards o new
are-boards o p new old readers e f g are =
    let P : Option Book → Type 0 = λ o. AreBoards o new in
    let Q : List Book → Type 0 = λ l. AreBoards p l in subst P (sym e) (subst Q (sym (f ∙ g)) are)

-- ---- what was opened

module _ (display : History) (fresh : display.events ≡ []) (workers readers : ℕ) (opened : Opened) (has : HasOpened display workers readers opened) where
  pub opened-boards : AreBoards (board_of opened.owner.writer) (map (λ reader. reader.board) opened.readers.items)
  opened-boards = by opened.owner.writer has.known (λ none. has.none (has.board.0 none))
    where
      by : (writer : Option Known) → IfSome writer (λ writer. opened.readers.items ≡ replicate readers writer)
          → (writer ≡ None → opened.readers.items ≡ []) → AreBoards (board_of writer) (map (λ reader. reader.board) opened.readers.items)
      by None are none = ap (map (λ reader. reader.board)) (none refl)
      by (Some writer) are none =
          let P : List Known → Type 0 = λ l. All (λ b. b ≡ writer.board) (map (λ reader. reader.board) l) in
          subst P (sym are) (boards-replicate writer readers)

  pub opened-count : length opened.readers.items ≡ readers
  opened-count = by opened.owner.writer has.known (λ none. has.board.0 none) has.none
    where
      by : (writer : Option Known) → IfSome writer (λ writer. opened.readers.items ≡ replicate readers writer) → (writer ≡ None → readers ≡ 0)
          → (readers ≡ 0 → opened.readers.items ≡ []) → length opened.readers.items ≡ readers
      by None are unread none = ap length (none (unread refl)) ∙ sym (unread refl)
      by (Some writer) are unread none = ap length are ∙ length-replicate readers writer

  -- its owner is ready
  pub opened-ready : IsReady opened.owner
  opened-ready =
      let P : History → Type 0 = λ h. IsUnsent h.events in
      let Q : History → Type 0 = λ h. 1 ≤ versions_of h.events in
      let N : List Event → Type 0 = λ l. 1 ≤ versions_of (l ++ Published false ∷ []) in
      record {
        shown = record { owned = has.owned; published = subst Q (sym has.display) (subst N (sym fresh) (omega arith)) };
        unsent = subst P (sym has.display) (unsent-opened display fresh);
      }

  -- its journal has one event
  pub opened-room : length opened.owner.display.events < event_limit
  opened-room = let P : History → Type 0 = λ h. length h.events < event_limit in subst P (sym has.display) (room-fresh display fresh)

-- ---- what is left

pub left-of : (script : List ℕ) (owner new : Owner) (sink after behind : SinkState) (left : Left)
    → PlaysAll owner.crew.workers script (at owner.display sink) (at new.display after) left.played → IsSameTeam owner new
    → OnOk left.played (IfSome new.writer (λ writer. writer.newest ≡ new.display)) → left.display ≡ new.display → left.writer ≡ new.writer → behind ≡ after
    → HasLeft script owner sink behind left
left-of script owner new sink after behind left played team shown same same' out =
    let D : History → Type 0 = λ h. PlaysAll owner.crew.workers script (at owner.display sink) (at h behind) left.played in
    let S : SinkState → Type 0 = λ k. PlaysAll owner.crew.workers script (at owner.display sink) (at new.display k) left.played in
    let H : History → Type 0 = λ h. OnOk left.played (IfSome left.writer (λ writer. writer.newest ≡ h)) in
    let W : Option Known → Type 0 = λ writer. OnOk left.played (IfSome writer (λ writer. writer.newest ≡ new.display)) in
    record {
      played = subst D (sym same) (subst S (sym out) played);
      board = ap board_of same' ∙ team.board;
      shown = subst H (sym same) (subst W (sym same') shown);
    }

-- ---- watchers

-- a team at the boards of its readers is as large
pub team-count : (team : List Watching) (old : List Book) (readers : List Known) → map (λ w. w.known.board) team ≡ old
    → old ≡ map (λ k. k.board) readers → length team ≡ length readers
team-count team old readers e f =
    sym (length-map team (λ w. w.known.board)) ∙ (ap length (e ∙ f) ∙ length-map readers (λ k. k.board))

-- ---- the run

ended-opening : (make : Option ℕ) (course : Course) (s : Stage) (r : Result Tally Stop) → HasEnded make course s r → s.history.opening ≡ course.text
ended-opening make course s (Ok tally) ended = ended.opening
ended-opening make course s (Err stop) ended = ended.opening

-- a display that wasn't opened has its text
pub unopened-opening : (old new : History) → IsUnopened old new → new.opening ≡ old.opening
unopened-opening old new (inl e) = ap (λ h. h.opening) e
unopened-opening old new (inr e) = ap (λ h. h.opening) e

-- the events of a lawful history are lawful on its text
pub lawful-events : (text : List ℕ) (h : History) (events : List Event) → h.opening ≡ text → events ≡ h.events → IsLawfulHistory h
    → IsLawfulHistory (history_of text events)
lawful-events text h events opening same lawful =
    let E : List Event → Type 0 = λ l. IsLawfulHistory (history_of text l) in
    let T : List ℕ → Type 0 = λ t. IsLawfulHistory (history_of t h.events) in
    subst E (sym same) (subst T opening lawful)

module _ (plan : Plan) (display : History) (script : List ℕ) (old mid : SinkState) (opened : Opened) (left : Left)
    (fresh : display.events ≡ []) (has : HasOpened display plan.workers plan.watchers opened) (went : HasLeftBy plan.make script opened.owner old mid left) where
  abbrev its-course : Course
  its-course = record { text = display.opening; entries = numbered_lines script; workers = plan.workers; watchers = plan.watchers; sink = old }

  play-ended : HasEnded plan.make its-course (at left.display mid) left.played
  play-ended =
      let G : History → Type 0 = λ h. IsGoing its-course its-course.entries no_lines (at h old) in
      went.played its-course (sym has.team)
      (subst G (sym has.display) (going-fresh display fresh its-course.entries its-course.workers its-course.watchers old))

  -- the text is still the one that was opened
  pub left-opening : left.display.opening ≡ display.opening
  left-opening = ended-opening plan.make its-course (at left.display mid) left.played play-ended

pub run-opened : (plan : Plan) (display : History) (script : List ℕ) (old mid after : SinkState) (opened : Opened) (left : Left) (count : ℕ)
    (r : Result Tally Stop) (watched : List (List Seen)) (status : ℕ) (events : List Event) (note : Note)
    → display.events ≡ [] → HasOpened display plan.workers plan.watchers opened → HasLeftBy plan.make script opened.owner old mid left
    → EndsWatch left.played left.writer count mid after r watched → count ≤ length opened.readers.items
    → OnOk left.played (count ≡ length opened.readers.items) → events ≡ left.display.events → IsNoteOf r status note
    → HasRun plan.make (record { text = display.opening; entries = numbered_lines script; workers = plan.workers; watchers = plan.watchers; sink = old })
    status events after watched note
run-opened plan display script old mid after opened left count r watched status events note fresh has went ends few all same says =
    let course : Course =
    record { text = display.opening; entries = numbered_lines script; workers = plan.workers; watchers = plan.watchers; sink = old } in
    let ended : HasEnded plan.make course (at left.display mid) left.played = play-ended plan display script old mid opened left fresh has went in
    let counted = opened-count display fresh plan.workers plan.watchers opened has in
    let most : count ≤ plan.watchers = omega arith in
    let E : List Event → Type 0 = λ l. HasRun plan.make course status l after watched note in
    subst E (sym same) (run-watched plan.make course status left.display.events after watched r note
    (ends plan.make course left.display ended went.shown most (exactly left.played counted all)) says)
  where
    exactly : (played : Result Tally Stop) → length opened.readers.items ≡ plan.watchers → OnOk played (count ≡ length opened.readers.items)
        → OnOk played (count ≡ plan.watchers)
    exactly (Ok tally) counted all = all ∙ counted
    exactly (Err stop) counted all = tt
