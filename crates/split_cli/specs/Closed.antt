-- How a session ends, and what each end means. It is the run of a script on several views of one text.
use Rattle.std.specs.Prelude.{ℕ, ◌≡◌, ◌⊎◌, ◌↔◌, Bool, true, List, [], map, Option, None, IfSome}
use Rattle.cell_units.specs.Text.{clean}
use Rattle.display_map.specs.Events.{Event}
use Rattle.display_map.specs.Replay.{History}
use Rattle.command_line.specs.declared.views.ViewPlan.{ViewPlan}
use Rattle.script_runner.specs.Entries.{script_lines}
use Rattle.script_runner.specs.Legal.{history_of}
use Rattle.script_runner.specs.Outside.{InputState, SinkState, HasRisen}
use Rattle.split_script.specs.Met.{numbered}
use Rattle.split_script.specs.Theorems.{HaveBegun, IsFinished, IsFull, IsStopped, SplitCourse}
use Rattle.display_cli.specs.declared.ended.Note.{Note}
use Rattle.display_cli.specs.declared.ended.Note.TheVariants.{Memory, Usage}
use Rattle.display_cli.specs.Ended.{Endings, EndsAs, HasReadsPassed, HasRead, HasStatus, IsComplete, IsOwed, ReadsInOrder, Run}
use Rattle.split_cli.specs.declared.closed.Closed.{Closed}

-- a session, as it is seen: its inputs and its sink before and after, how it ended, and the history of each view
pub record Session : Type 0 where
  pub inputs : InputState
  pub inputs_after : InputState
  pub sink : SinkState
  pub sink_after : SinkState
  pub status : ℕ
  pub note : Note
  pub histories : List (List Event)

-- the session that closed so
abbrev pub session_of : (inputs inputs_after : InputState) (sink sink_after : SinkState) → Closed → Session
session_of inputs inputs_after sink sink_after closed = record {
  inputs = inputs;
  inputs_after = inputs_after;
  sink = sink;
  sink_after = sink_after;
  status = closed.status;
  note = closed.note;
  histories = closed.histories.items;
}

-- what is seen from outside, where a session is as a run: all but its histories
abbrev pub outside : Session → Run
outside session = record {
  inputs = session.inputs;
  inputs_after = session.inputs_after;
  sink = session.sink;
  sink_after = session.sink_after;
  status = session.status;
  note = session.note;
  history = [];
  watched = [];
}

-- ---- finished, stopped and refused

-- a refused session: it wrote nothing, and has no history
pub record IsUnopened (session : Session) : Type 0 where
  pub histories : session.histories ≡ []
  pub sink : session.sink_after ≡ session.sink

-- the course of a session that has read its text and its script
abbrev pub split_course_of : ViewPlan → (bytes script : List ℕ) → SinkState → SplitCourse
split_course_of plan bytes script sink =
    record {
      text = clean bytes;
      views = plan.views;
      lines = numbered plan.views (script_lines script);
      sink = sink;
    }

-- its histories, each on the opening text
abbrev pub histories_on : List ℕ → Session → List History
histories_on text session = map (history_of text) session.histories

-- a session that has read its text and its script, and then finished: by the session theorem each view answered what it
-- would answer alone, and by the undo theorem it has the text that the line of texts says. The status says whether a line
-- was refused
pub record HasClosed (plan : ViewPlan) (session : Session) : Type 0 where
  pub read : HasRead plan.plan (outside session)
  pub refused : Bool
  pub status : (session.status ≡ 1) ↔ (refused ≡ true)
  pub finished : IsFinished (split_course_of plan read.bytes read.script session.sink)
      (histories_on (clean read.bytes) session) session.sink_after refused

-- ... and then stopped, for a cause that a course and histories give
pub record HasBroken (plan : ViewPlan) (session : Session) (cause : SplitCourse → List History → Type 0) : Type 0 where
  pub read : HasRead plan.plan (outside session)
  pub stopped : IsStopped (split_course_of plan read.bytes read.script session.sink)
      (histories_on (clean read.bytes) session) session.sink_after
  pub caused : cause (split_course_of plan read.bytes read.script session.sink) (histories_on (clean read.bytes) session)

-- ---- what makes a session end with each note

-- a write failed, where every history had begun
abbrev pub IsWriteFailed : Session → SplitCourse → List History → Type 0
IsWriteFailed session course histories = HaveBegun course histories × HasRisen session.sink.faults session.sink_after.faults

-- some journal is full, where every history had begun
abbrev pub IsJournalFull : SplitCourse → List History → Type 0
IsJournalFull course histories = HaveBegun course histories × IsFull course histories

-- a session that found no memory: it stopped, whatever its histories, or was refused, and no read and no write had failed
pub record IsShort (plan : ViewPlan) (session : Session) : Type 0 where
  pub ended : HasBroken plan session (λ course histories. Unit {0}) ⊎ IsUnopened session
  pub reads_passed : session.inputs_after.faults ≡ session.inputs.faults
  pub writes_passed : session.sink_after.faults ≡ session.sink.faults

-- what it is of a session to end: to finish, to stop for a failed write or a full journal, to find no memory, to be refused
abbrev pub closings_of : ViewPlan → Session → Endings
closings_of plan session = record {
  finished = HasClosed plan session;
  unwritten = HasBroken plan session (IsWriteFailed session);
  full = HasBroken plan session IsJournalFull;
  short = IsShort plan session;
  refused = IsUnopened session;
}

-- what a session of a plan is, by the note that it ends with. Notes and causes are those of a run
abbrev pub IsClosedAs : ViewPlan → Session → Note → Type 0
IsClosedAs plan session note = EndsAs (closings_of plan session) plan.plan (outside session) note

-- the headline: what the session of a plan is, which reads it made, and that it ends as it is owed
pub record IsSession (session : Session) (plan : ViewPlan) : Type 0 where
  pub outcome : IsClosedAs plan session session.note
  pub reads : ReadsInOrder plan.plan session.note session.inputs.reads session.inputs_after.reads
  pub passed : HasReadsPassed (outside session)
  pub owed : IsOwed plan.plan (outside session)
  pub complete : IsComplete plan.plan (outside session)

-- a session of words, of which a plan is the reading, if they have one. Words without a reading are refused, and out of
-- memory alone may come in place of that answer
pub record IsSessionOfWords (plan : Option ViewPlan) (session : Session) : Type 0 where
  pub status : HasStatus session.note session.status
  pub usage : session.note ≡ Usage → plan ≡ None
  pub unread : plan ≡ None → (session.note ≡ Usage) ⊎ (session.note ≡ Memory)
  pub nothing : plan ≡ None → IsUnopened session
  pub planned : IfSome plan (IsSession session)
