-- How a text is opened and a script read.
use Rattle.std.specs.Prelude.{ℕ, ◌≡◌, ◌<◌, ◌≤◌, ◌⊎◌, ◌↔◌, true, All, List, [], length, map, Option, Some, None, IfSome, Result, Ok, Err, OnOk}
use Rattle.std.specs.declared.alloc.Global.{Global}
use Rattle.std.specs.declared.vec.Vec.{Vec}
use Rattle.cell_units.specs.Text.{clean}
use Rattle.display_map.specs.Events.{Event}
use Rattle.cell_units.specs.declared.fault.TextFault.TheVariants.{NotUtf8, TooLong}
use Rattle.cell_units.specs.Refusal.{IsAccepted, IsTextRefused}
use Rattle.display_map.specs.Events.{event_limit}
use Rattle.display_map.specs.Replay.{History, ends}
use Rattle.version_board.specs.Known.{Known}
use Rattle.board_watch.specs.declared.seen.Seen.{Seen}
use Rattle.board_watch.specs.declared.seen.Watched.{Watched}
use Rattle.board_watch.specs.Watching.{IsWatched}
use Rattle.command_line.specs.declared.plan.Plan.{Plan}
use Rattle.display_cli.specs.declared.limits.TheConstants.{SCRIPT_LIMIT}
use Rattle.display_cli.specs.declared.ended.Ended.{Ended}
use Rattle.display_cli.specs.declared.ended.Note.{Note}
use Rattle.display_cli.specs.declared.ended.Note.TheVariants.{Fine, ReadText, ReadScript, Write, TextNotUtf8, TextTooLong, ScriptTooLong, JournalFull, Memory}
use Rattle.script_runner.specs.declared.stop.Stop.{Stop}
use Rattle.script_runner.specs.declared.stop.Stop.TheVariants as stops
use Rattle.script_runner.specs.declared.tally.Tally.{Tally}
use Rattle.script_runner.specs.Outside.{Faults, SinkState, HasRisen, AreTold, Takes, nowhere}
use Rattle.script_runner.specs.Entries.{numbered_lines}
use Rattle.script_runner.specs.Legal.{history_of}
use Rattle.script_runner.specs.Course.{Course, IsFinished, IsStopped, IsFull}
use Rattle.script_runner.specs.Going.{HasEnded, IsWhy, at}

-- a display was started on accepted bytes, so many, which are those that are given
abbrev pub IsOpenedOn : Option (List ℕ) → ℕ → History → Type 0
IsOpenedOn told count display =
    (bytes : List ℕ) × AreTold told bytes × IsAccepted bytes × (display ≡ record { opening = clean bytes; events = [] })
    × (length bytes ≡ count)

-- why a display wasn't started on bytes
abbrev pub IsStartRefused : List ℕ → Note → Type 0
IsStartRefused bytes TextTooLong = IsTextRefused bytes TooLong
IsStartRefused bytes (TextNotUtf8 at) = IsTextRefused bytes (NotUtf8 at)
IsStartRefused bytes Memory = Unit {0}
IsStartRefused bytes _ = ⊥

-- why a text wasn't opened: the counts of faults are those before and after
abbrev pub IsTextUnread : Option (List ℕ) → Faults → Faults → Note → Type 0
IsTextUnread told old new ReadText = HasRisen old.text new.text
IsTextUnread told old new TextTooLong = (new ≡ old) × IfSome told (λ bytes. IsTextRefused bytes TooLong)
IsTextUnread told old new (TextNotUtf8 at) = (new ≡ old) × IfSome told (λ bytes. IsTextRefused bytes (NotUtf8 at))
IsTextUnread told old new Memory = new ≡ old
IsTextUnread told old new _ = ⊥

-- a script was read whole, and is within its limit
abbrev pub IsScript : Option (List ℕ) → List ℕ → Type 0
IsScript told script = AreTold told script × (length script ≤ SCRIPT_LIMIT)

-- why a script wasn't read
abbrev pub IsScriptUnread : Option (List ℕ) → Faults → Faults → Note → Type 0
IsScriptUnread told old new ReadScript = HasRisen old.script new.script
IsScriptUnread told old new ScriptTooLong = (new ≡ old) × IfSome told (λ script. SCRIPT_LIMIT < length script)
IsScriptUnread told old new Memory = new ≡ old
IsScriptUnread told old new _ = ⊥

-- the note of a run that stopped
abbrev pub note_of : Stop → Note
note_of stops.Write = Write
note_of stops.JournalFull = JournalFull
note_of stops.Memory = Memory

-- what watchers saw
abbrev pub seen_by : Vec Watched Global → List (List Seen)
seen_by watched = map (λ w. w.seen.items) watched.items

-- what watchers saw of a board, of which the newest version is the last one. Without a board none watched
abbrev pub SeeLast : Option Known → List (List Seen) → Type 0
SeeLast None watched = watched ≡ []
SeeLast (Some writer) watched = ends writer.newest.events ≡ true → All (IsWatched writer.newest) watched

-- how the play of a script ended, with what the watchers saw written after it
abbrev pub HasWatched : Option ℕ → Course → List Event → SinkState → List (List Seen) → Result Tally Stop → Type 0
HasWatched make course events sink watched (Ok tally) =
    (status : ℕ) → ((status ≡ 1) ↔ (1 ≤ tally.refused)) → IsFinished make course events sink watched status
HasWatched make course events sink watched (Err stop) =
    IsStopped make course events sink watched × IsWhy course (at (history_of course.text events) sink) stop

-- so many watchers ended their watch after a play that ended so, whose last version the writer shows
abbrev pub EndsWatch : Result Tally Stop → Option Known → ℕ → SinkState → SinkState → Result Tally Stop → List (List Seen) → Type 0
EndsWatch played writer count old new result watched =
    (make : Option ℕ) (course : Course) (h : History) → HasEnded make course (at h old) played → OnOk played (IfSome writer (λ w. w.newest ≡ h)) → count ≤ course.watchers
    → OnOk played (count ≡ course.watchers) → HasWatched make course h.events new watched result

-- the note and the status of a play that ended so
abbrev pub IsNoteOf : Result Tally Stop → ℕ → Note → Type 0
IsNoteOf (Ok tally) status note = (note ≡ Fine) × ((status ≡ 1) ↔ (1 ≤ tally.refused))
IsNoteOf (Err stop) status note = note ≡ note_of stop

-- how the run of a script ended
abbrev pub HasRun : Option ℕ → Course → ℕ → List Event → SinkState → List (List Seen) → Note → Type 0
HasRun make course status events sink watched Fine = IsFinished make course events sink watched status
HasRun make course status events sink watched Write =
    IsStopped make course events sink watched × HasRisen course.sink.faults sink.faults
HasRun make course status events sink watched JournalFull = IsStopped make course events sink watched × IsFull course events
HasRun make course status events sink watched Memory =
    (sink.faults ≡ course.sink.faults)
    × ((IsStopped make course events sink watched × (length events < event_limit))
    ⊎ ((events ≡ []) × (watched ≡ []) × (sink ≡ course.sink)))
HasRun make course status events sink watched _ = ⊥

-- how the run of a script on an opening text ended, with the threads of a plan
abbrev pub HasRunOn : Plan → List ℕ → List ℕ → SinkState → SinkState → Ended → Type 0
HasRunOn plan opening script old new ended =
    HasRun plan.make (record { text = opening; entries = numbered_lines script; workers = plan.workers; watchers = plan.watchers; sink = old })
    ended.status ended.history new (seen_by ended.watched) ended.note

-- ---- a made run

-- the same course to a sink that gives what it took, and of which no write fails
abbrev pub to_nowhere : Course → List ℕ → Course
to_nowhere course taken = record course { sink = nowhere taken }

-- a play whose answers went to such a sink ended so, and where it came to its end the summary was written
abbrev pub Reports : Result Tally Stop → History → SinkState → SinkState → Result Tally Stop → Type 0
Reports played h old new result =
    (number : ℕ) (course : Course) (before behind : List ℕ) → Takes [] course.sink old
    → HasEnded None (to_nowhere course before) (at h (nowhere behind)) played
    → HasEnded (Some number) course (at h new) result
