-- How a run ends, and what each end means.
use Rattle.std.specs.Prelude.{ℕ, ◌≡◌, ◌≢◌, ◌+◌, ◌<◌, ◌≤◌, ◌⊎◌, ◌++◌, Bool, true, false, List, [], ◌∷◌, length, map, Option, Some, None, IfSome}
use Rattle.std.specs.declared.io.ErrorKind.{ErrorKind}
use Rattle.std.specs.declared.io.ErrorKind.TheVariants.{InvalidData}
use Rattle.cell_units.specs.Text.{clean}
use Rattle.display_map.specs.Events.{Event}
use Rattle.cell_units.specs.declared.fault.TextFault.TheVariants.{NotUtf8, TooLong}
use Rattle.cell_units.specs.declared.limits.TheConstants.{TEXT_LIMIT}
use Rattle.cell_units.specs.Refusal.{IsAccepted, IsTextRefused}
use Rattle.display_map.specs.LawfulStates.{IsLawfulHistory}
use Rattle.board_watch.specs.declared.seen.Seen.{Seen}
use Rattle.command_line.specs.declared.plan.Plan.{Plan}
use Rattle.generated_input.specs.Made.{TextAndScript, made_of}
use Rattle.display_cli.specs.declared.ended.Ended.{Ended}
use Rattle.display_cli.specs.declared.ended.Note.{Note}
use Rattle.display_cli.specs.declared.ended.Note.TheVariants.{Fine, Usage, ReadText, ReadScript, Write, TextNotUtf8, TextTooLong, ScriptTooLong, JournalFull, Memory}
use Rattle.display_cli.specs.declared.limits.TheConstants.{SCRIPT_LIMIT}
use Rattle.script_runner.specs.declared.outside.Part.{Part}
use Rattle.script_runner.specs.declared.outside.Part.TheVariants.{Text, Script}
use Rattle.script_runner.specs.Outside.{Read, InputState, SinkState, HasRisen, AreTold, Takes, TakesFront, count_between}
use Rattle.script_runner.specs.Entries.{numbered_lines}
use Rattle.script_runner.specs.Legal.{history_of}
use Rattle.script_runner.specs.Course.{Course, IsFinished, IsStopped, IsFull, HasRoom}
use Rattle.display_cli.specs.Notes.{note_line}

-- the status of each note
abbrev pub HasStatus : Note → ℕ → Type 0
HasStatus Fine status = status ≤ 1
HasStatus Usage status = status ≡ 2
HasStatus ReadText status = status ≡ 3
HasStatus ReadScript status = status ≡ 3
HasStatus Write status = status ≡ 4
HasStatus (TextNotUtf8 at) status = status ≡ 5
HasStatus TextTooLong status = status ≡ 5
HasStatus ScriptTooLong status = status ≡ 5
HasStatus JournalFull status = status ≡ 7
HasStatus Memory status = status ≡ 6

-- a run, as it is seen: its inputs and its sink before and after, and how it ended
pub record Run : Type 0 where
  pub inputs : InputState
  pub inputs_after : InputState
  pub sink : SinkState
  pub sink_after : SinkState
  pub status : ℕ
  pub note : Note
  pub history : List Event
  pub watched : List (List Seen)

-- the run that ended so
abbrev pub run_of : (inputs inputs_after : InputState) (sink sink_after : SinkState) → Ended → Run
run_of inputs inputs_after sink sink_after ended = record {
  inputs = inputs;
  inputs_after = inputs_after;
  sink = sink;
  sink_after = sink_after;
  status = ended.status;
  note = ended.note;
  history = ended.history;
  watched = map (λ w. w.seen.items) ended.watched.items;
}

-- ---- finished, stopped and refused

-- a refused run: it wrote nothing, began no history, and no watcher saw a version
pub record IsRefused (run : Run) : Type 0 where
  pub history : run.history ≡ []
  pub watched : run.watched ≡ []
  pub sink : run.sink_after ≡ run.sink

-- the bytes that are given for a name, or with a make those that are made
abbrev pub given : Option ℕ → Option (List ℕ) → (TextAndScript → List ℕ) → Option (List ℕ)
given None told part = told
given (Some number) told part = Some (part (made_of number))

-- the bytes of a plan's text, where they are given
abbrev pub text_of : Plan → InputState → Option (List ℕ)
text_of plan inputs = given plan.make (inputs.told plan.text) (λ made. made.text)

-- ... and of its script
abbrev pub script_of : Plan → InputState → Option (List ℕ)
script_of plan inputs = given plan.make (inputs.told plan.script) (λ made. made.script)

-- a text and a script that were read whole and accepted. They have as many bytes as the reads of their names gave
pub record HasRead (plan : Plan) (run : Run) : Type 0 where
  pub bytes : List ℕ
  pub script : List ℕ
  pub text_told : AreTold (text_of plan run.inputs) bytes
  pub script_told : AreTold (script_of plan run.inputs) script
  pub text_accepted : IsAccepted bytes
  pub script_fits : length script ≤ SCRIPT_LIMIT
  pub text_counted : plan.make ≡ None → length bytes ≡ count_between Text run.inputs run.inputs_after
  pub script_counted : plan.make ≡ None → length script ≡ count_between Script run.inputs run.inputs_after

-- the course of a run that has read them
abbrev pub course_of : Plan → (bytes script : List ℕ) → SinkState → Course
course_of plan bytes script sink =
    record {
      text = clean bytes;
      entries = numbered_lines script;
      workers = plan.workers;
      watchers = plan.watchers;
      sink = sink;
    }

-- a run that has read its text and its script, and then finished. Each operation of its history was allowed where it was
-- done, and each record is lawful
pub record HasFinished (plan : Plan) (run : Run) : Type 0 where
  pub read : HasRead plan run
  pub lawful : IsLawfulHistory (history_of (clean read.bytes) run.history)
  pub finished : IsFinished plan.make (course_of plan read.bytes read.script run.sink) run.history run.sink_after run.watched run.status

-- ... and then stopped, for a cause that a course and a history give
pub record HasStopped (plan : Plan) (run : Run) (cause : Course → List Event → Type 0) : Type 0 where
  pub read : HasRead plan run
  pub lawful : IsLawfulHistory (history_of (clean read.bytes) run.history)
  pub stopped : IsStopped plan.make (course_of plan read.bytes read.script run.sink) run.history run.sink_after run.watched
  pub caused : cause (course_of plan read.bytes read.script run.sink) run.history

-- ---- what makes a run end with each note

-- a write failed
abbrev pub IsWriteFailed : Run → Course → List Event → Type 0
IsWriteFailed run course events = HasRisen run.sink.faults run.sink_after.faults

-- the text was read whole and accepted
abbrev pub HasText : Plan → Run → Type 0
HasText plan run = (bytes : List ℕ) × AreTold (text_of plan run.inputs) bytes × IsAccepted bytes

-- a run that found no memory: it stopped where its journal had room, or was refused, and no read and no write had failed
pub record IsShort (plan : Plan) (run : Run) : Type 0 where
  pub ended : HasStopped plan run HasRoom ⊎ IsRefused run
  pub reads_passed : run.inputs_after.faults ≡ run.inputs.faults
  pub writes_passed : run.sink_after.faults ≡ run.sink.faults

-- what it is to finish, to stop for a failed write or a full journal, to find no memory, and to be refused
pub record Endings : Type 1 where
  pub finished : Type 0
  pub unwritten : Type 0
  pub full : Type 0
  pub short : Type 0
  pub refused : Type 0

-- what is so where it ends with a note. No read fails where text and script are made
abbrev pub EndsAs : Endings → Plan → Run → Note → Type 0
EndsAs endings plan run Fine = endings.finished
EndsAs endings plan run Write = endings.unwritten
EndsAs endings plan run JournalFull = endings.full
EndsAs endings plan run Memory = endings.short
EndsAs endings plan run ReadText =
    endings.refused × HasRisen run.inputs.faults.text run.inputs_after.faults.text × (plan.make ≡ None)
EndsAs endings plan run ReadScript =
    endings.refused × HasRisen run.inputs.faults.script run.inputs_after.faults.script × HasText plan run × (plan.make ≡ None)
EndsAs endings plan run (TextNotUtf8 at) =
    endings.refused × IfSome (text_of plan run.inputs) (λ bytes. IsTextRefused bytes (NotUtf8 at))
EndsAs endings plan run TextTooLong =
    endings.refused × IfSome (text_of plan run.inputs) (λ bytes. IsTextRefused bytes TooLong)
EndsAs endings plan run ScriptTooLong =
    endings.refused × IfSome (script_of plan run.inputs) (λ script. SCRIPT_LIMIT < length script) × HasText plan run
EndsAs endings plan run Usage = ⊥

-- what these are of a run
abbrev pub endings_of : Plan → Run → Endings
endings_of plan run = record {
  finished = HasFinished plan run;
  unwritten = HasStopped plan run (IsWriteFailed run);
  full = HasStopped plan run IsFull;
  short = IsShort plan run;
  refused = IsRefused run;
}

-- what a run of a plan is, by the note that it ends with
abbrev pub IsEndedAs : Plan → Run → Note → Type 0
IsEndedAs plan run note = EndsAs (endings_of plan run) plan run note

-- ---- which reads are made

-- reads of a part under a name, the first from a byte on and each other from where the one before it ended. None goes on
-- past one byte over the limit
abbrev pub AreReadsOf : Part → List ℕ → ℕ → ℕ → List Read → Type 0
AreReadsOf part name limit at [] = Unit {0}
AreReadsOf part name limit at (read ∷ reads) =
    (read.part ≡ part) × (read.name ≡ name) × (read.at ≡ at) × (at + read.count ≤ limit + 1)
    × AreReadsOf part name limit (at + read.count) reads

-- the note is of the text alone
abbrev pub ends_at_text : Note → Bool
ends_at_text ReadText = true
ends_at_text (TextNotUtf8 at) = true
ends_at_text TextTooLong = true
ends_at_text _ = false

-- the reads of a run are those of its text, and then, where that is accepted, those of its script; with a make there are none
pub record ReadsInOrder (plan : Plan) (note : Note) (old new : List Read) : Type 0 where
  pub text : List Read
  pub script : List Read
  pub made : new ≡ old ++ (text ++ script)
  pub of_text : AreReadsOf Text plan.text TEXT_LIMIT 0 text
  pub of_script : AreReadsOf Script plan.script SCRIPT_LIMIT 0 script
  pub judged : ends_at_text note ≡ true → script ≡ []
  pub none : plan.make ≢ None → new ≡ old

-- ---- which notes are owed

-- no read of the text failed
abbrev pub IsTextUnfailed : Run → Type 0
IsTextUnfailed run = HasRisen run.inputs.faults.text run.inputs_after.faults.text → ⊥

-- no read of the script failed
abbrev pub IsScriptUnfailed : Run → Type 0
IsScriptUnfailed run = HasRisen run.inputs.faults.script run.inputs_after.faults.script → ⊥

-- the answers that are owed where the text is given and no read of it failed: out of memory alone may come in their place
pub record IsOwed (plan : Plan) (run : Run) : Type 0 where
  pub too_long : (bytes : List ℕ) → text_of plan run.inputs ≡ Some bytes → IsTextUnfailed run
      → IsTextRefused bytes TooLong → (run.note ≡ TextTooLong) ⊎ (run.note ≡ Memory)
  pub not_utf8 : (bytes : List ℕ) (at : ℕ) → text_of plan run.inputs ≡ Some bytes → IsTextUnfailed run
      → IsTextRefused bytes (NotUtf8 at) → (run.note ≡ TextNotUtf8 at) ⊎ (run.note ≡ Memory)
  pub script_too_long : (bytes script : List ℕ) → text_of plan run.inputs ≡ Some bytes
      → script_of plan run.inputs ≡ Some script → IsTextUnfailed run → IsScriptUnfailed run
      → IsAccepted bytes → SCRIPT_LIMIT < length script → (run.note ≡ ScriptTooLong) ⊎ (run.note ≡ Memory)

-- where both are given and within their limits and no count rose, the run finishes, unless memory or the journal's room ends
abbrev pub IsComplete : Plan → Run → Type 0
IsComplete plan run =
    (bytes script : List ℕ) → text_of plan run.inputs ≡ Some bytes → script_of plan run.inputs ≡ Some script
    → IsAccepted bytes → length script ≤ SCRIPT_LIMIT
    → IsTextUnfailed run → IsScriptUnfailed run → (HasRisen run.sink.faults run.sink_after.faults → ⊥)
    → (run.note ≡ Fine) ⊎ ((run.note ≡ Memory) ⊎ (run.note ≡ JournalFull))

-- no read failed, unless the note says so
abbrev pub HasReadsPassed : Run → Type 0
HasReadsPassed run = run.note ≢ ReadText → run.note ≢ ReadScript → run.inputs_after.faults ≡ run.inputs.faults

-- the headline: what the run of a plan is, which reads it made, and that it ends as it is owed
pub record IsRun (run : Run) (plan : Plan) : Type 0 where
  pub outcome : IsEndedAs plan run run.note
  pub reads : ReadsInOrder plan run.note run.inputs.reads run.inputs_after.reads
  pub passed : HasReadsPassed run
  pub owed : IsOwed plan run
  pub complete : IsComplete plan run

-- a run of words, of which a plan is the reading, if they have one. Words without a reading are refused, and out of memory
-- alone may come in place of that answer
pub record IsRunOfWords (plan : Option Plan) (run : Run) : Type 0 where
  pub status : HasStatus run.note run.status
  pub usage : run.note ≡ Usage → plan ≡ None
  pub unread : plan ≡ None → (run.note ≡ Usage) ⊎ (run.note ≡ Memory)
  pub nothing : plan ≡ None → IsRefused run
  pub planned : IfSome plan (IsRun run)

-- what is said of a note: the sink took a prefix of its line, and all of it unless a write failed
pub record Says (note : Note) (old new : SinkState) : Type 0 where
  pub front : TakesFront (note_line note) old new
  pub whole : (HasRisen old.faults new.faults → ⊥) → Takes (note_line note) old new

-- the note of a program that the system gave no words, for an error of this kind: words that aren't text have no reading
abbrev pub note_without_words : ErrorKind → Note
note_without_words InvalidData = Usage
note_without_words _ = Memory
