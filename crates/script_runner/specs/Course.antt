-- What a run is given, and what it is where it finishes and where it stops.
use Rattle.std.specs.Prelude.{ℕ, ◌≡◌, ◌≢◌, ◌+◌, ◌<◌, ◌≤◌, ◌↔◌, All, List, [], length, Option, Some, None}
use Rattle.cell_units.specs.Record.{Record}
use Rattle.display_map.specs.Events.{Event}
use Rattle.display_map.specs.Events.{event_limit}
use Rattle.display_map.specs.Replay.{present_of}
use Rattle.live_display.specs.declared.owner.TheConstants.{EVENTS_AHEAD}
use Rattle.board_watch.specs.declared.seen.Seen.{Seen}
use Rattle.board_watch.specs.Watching.{AreRising, IsWatched}
use Rattle.script_runner.specs.Outside.{SinkState, Takes, TakesFront}
use Rattle.script_runner.specs.Entries.{Entry, asked_by}
use Rattle.script_runner.specs.Legal.{IsLegal, IsLegalSoFar, next_entry, history_of}
use Rattle.script_runner.specs.Output.{output, refusals}

-- what a run is given: the opening text, the entries that it handles, how many workers and watchers it has, and its sink
pub record Course : Type 0 where
  pub text : List ℕ
  pub entries : List (ℕ × Entry)
  pub workers : ℕ
  pub watchers : ℕ
  pub sink : SinkState

-- what the watchers of a finished run saw: each saw versions of its history in order, and last the last one
pub record HaveWatched (course : Course) (history : List Event) (watched : List (List Seen)) : Type 0 where
  pub all : length watched ≡ course.watchers
  pub each : All (IsWatched (history_of course.text history)) watched

-- ... and of a stopped run: as many as found memory, and the numbers of the versions that each saw rise
pub record HaveWatchedSome (course : Course) (watched : List (List Seen)) : Type 0 where
  pub few : length watched ≤ course.watchers
  pub each : All (AreRising 0) watched

-- a finished run: its history is legal, it wrote all its output, its status says whether an entry was refused, and its
-- watchers saw its last version
pub record IsFinished (make : Option ℕ) (course : Course) (history : List Event) (sink : SinkState) (watched : List (List Seen)) (status : ℕ) : Type 0 where
  pub legal : IsLegal course.text course.entries course.workers history
  pub written : Takes (output make course.text course.entries history watched) course.sink sink
  pub refusals : (status ≡ 1) ↔ (1 ≤ refusals course.text course.entries history)
  pub watchers : HaveWatched course history watched

-- a stopped run: its history has begun and is legal so far, and it wrote a prefix of its output
pub record IsStopped (make : Option ℕ) (course : Course) (history : List Event) (sink : SinkState) (watched : List (List Seen)) : Type 0 where
  pub begun : history ≢ []
  pub legal : IsLegalSoFar course.text course.entries course.workers history
  pub written : TakesFront (output make course.text course.entries history watched) course.sink sink
  pub watchers : HaveWatchedSome course watched

-- ---- the journal's room

-- the count of operations that the next entry asks for, accepted or not
abbrev pub asked_by_next : Record → Option (ℕ × Entry) → ℕ
asked_by_next r None = 0
asked_by_next r (Some l) = asked_by r l.1

-- the journal has no room for the events of a step and the operations of the next entry
abbrev pub IsFull : Course → List Event → Type 0
IsFull course events =
    event_limit < length events + EVENTS_AHEAD + asked_by_next (present_of (history_of course.text events)) (next_entry course.entries events)

-- the journal has room
abbrev pub HasRoom : Course → List Event → Type 0
HasRoom course events = length events < event_limit
