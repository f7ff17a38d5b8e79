-- How far a run has come between two events.
use Rattle.std.specs.Prelude.{Result, Ok, Err, ℕ, ◌≡◌, ◌≢◌, ◌<◌, ◌≤◌, ◌+◌, ◌*◌, ◌⊎◌, Bool, true, false, List, [], ◌∷◌, ◌++◌, length, map, drop, slice_get, Option, Some, None}
use Rattle.std.specs.List.{last_or, list_any}
use Rattle.cell_units.specs.declared.fault.Refusal.{Refusal}
use Rattle.cell_units.specs.Record.{Record}
use Rattle.cell_units.specs.Operation.{Operation}
use Rattle.display_sheet.specs.declared.change.Change.{Change}
use Rattle.display_sheet.specs.Changes.{ops_of, change_refusal}
use Rattle.display_map.specs.Events.{Event}
use Rattle.display_map.specs.Events.{Did, Sent, Published}
use Rattle.display_map.specs.Events.{event_limit}
use Rattle.display_map.specs.Replay.{History, state_of, present_of, versions_of, next_run, is_settled, appended}
use Rattle.edit_script.specs.declared.asked.Form.{Form}
use Rattle.edit_script.specs.declared.asked.Asked.{Asked}
use Rattle.edit_script.specs.declared.asked.Asked.TheVariants as asks
use Rattle.edit_script.specs.declared.asked.Query.{Query}
use Rattle.edit_script.specs.Commands.{Ask, command_of, meaning}
use Rattle.edit_script.specs.Script.{filled_from}
use Rattle.edit_script.specs.declared.blank.TheConstants.{LINE_LIMIT}
use Rattle.edit_script.specs.Verdict.{Verdict, Refused, refused_or, query_refusal, command_refusal, is_over as is_id_over, IsLineRefused}
use Rattle.cell_units.specs.declared.fault.Fault.{Fault}
use Rattle.cell_units.specs.declared.fault.Fault.TheVariants as faults
use Rattle.live_display.specs.declared.owner.Owner.{Owner}
use Rattle.live_display.specs.declared.owner.TheConstants.{EVENTS_AHEAD}
use Rattle.live_display.specs.Beside.{GoesWithout, is_any_landing, outstanding}
use Rattle.live_display.specs.Owned.{IsBusy, IsOwned, IsSameTeam}
use Rattle.script_runner.specs.declared.runner.Runner.{Runner}
use Rattle.script_runner.specs.declared.stop.Stop.{Stop}
use Rattle.script_runner.specs.declared.stop.Stop.TheVariants as stops
use Rattle.script_runner.specs.declared.tally.Outcome.{Outcome}
use Rattle.script_runner.specs.declared.tally.Tally.{Tally}
use Rattle.script_runner.specs.Outside.{SinkState, HasRisen, Takes}
use Rattle.script_runner.specs.Entries.{Entry, Bytes, judged, asked_by, asked_by_command, numbered_lines}
use Rattle.script_runner.specs.Legal.{IsLegal, IsLegalSoFar, IsChanging, IsChanged, LandsFirst, lines_in, is_line, is_landed, is_end, needs_settled}
use Rattle.script_runner.specs.Output.{answered, no_lines, reported, tally_of}
use Rattle.script_runner.specs.Course.{Course, IsStopped, IsFull}
use Rattle.script_runner.specs.inside.Counting.{tallied}

-- after these events none is owed, and the last version isn't published yet
pub record IsFree (text : List ℕ) (entries : List (ℕ × Entry)) (events : List Event) : Type 0 where
  pub begun : events ≢ []
  pub unchanging : (done rest : List Operation) (op : Operation) → IsChanging text entries events done (op ∷ rest) → ⊥
  pub unchanged : IsChanged text entries events → ⊥
  pub unlanded : is_landed (last_or None events) ≡ false
  pub goes_on : list_any is_end events ≡ false

-- how far a run has come: the history of its display, and its sink
pub record Stage : Type 0 where
  pub history : History
  pub sink : SinkState

abbrev pub at : History → SinkState → Stage
at history sink = record { history = history; sink = sink }

-- how far a runner has come
abbrev pub stage : {R G K : Type 0} → (K → SinkState) → Runner R G K → Stage
stage state runner = at runner.owner.display (state runner.out.now)

-- a runner still writes to the same sink
abbrev pub SameSink : {R G K : Type 0} → Runner R G K → Runner R G K → Type 0
SameSink old new = new.out.ghost_name ≡ old.out.ghost_name

-- all but the display and what was written is the same: the team of its owner, the sink and the form
pub record IsSameRun {R G K : Type 0} (old new : Runner R G K) : Type 0 where
  pub team : IsSameTeam old.owner new.owner
  pub sink : SameSink old new
  pub form : new.form ≡ old.form

-- a run goes on: its history is legal so far, no event is owed, `left` are the entries that are still to be handled, all
-- answers were written, and `tally` is what was counted
pub record IsGoing (course : Course) (left : List (ℕ × Entry)) (tally : Tally) (s : Stage) : Type 0 where
  pub opening : s.history.opening ≡ course.text
  pub legal : IsLegalSoFar s.history.opening course.entries course.workers s.history.events
  pub free : IsFree s.history.opening course.entries s.history.events
  pub lines : drop (lines_in s.history.events) course.entries ≡ left
  pub written : Takes (answered s.history.opening course.entries s.history.events) course.sink s.sink
  pub tallied : tally_of s.history.opening course.entries s.history.events ≡ tally

-- why a run stopped
abbrev pub IsWhy : Course → Stage → Stop → Type 0
IsWhy course s stops.Write = HasRisen course.sink.faults s.sink.faults
IsWhy course s stops.JournalFull = IsFull course s.history.events
IsWhy course s stops.Memory = (length s.history.events < event_limit) × (s.sink.faults ≡ course.sink.faults)

-- a run stopped
pub record IsCut (make : Option ℕ) (course : Course) (s : Stage) (stop : Stop) : Type 0 where
  pub opening : s.history.opening ≡ course.text
  pub stopped : IsStopped make course s.history.events s.sink []
  pub why : IsWhy course s stop

-- ---- beside the lines

-- the crew has the outstanding jobs of the display, the board shows its newest version, and there is one
pub record IsShown (owner : Owner) : Type 0 where
  pub owned : IsOwned owner
  pub published : 1 ≤ versions_of owner.display.events

-- since the last line nothing was sent
abbrev pub IsUnsent : List Event → Type 0
IsUnsent past =
    (k job first count : ℕ) → slice_get past k ≡ Some (Sent job first count) → list_any is_line (drop k past) ≡ true

-- ... and for the line that comes next no run was sent yet
pub record IsReady (owner : Owner) : Type 0 where
  pub shown : IsShown owner
  pub unsent : IsUnsent owner.display.events

-- the journal has room for the events of a step
abbrev pub HasRoomAhead : History → Type 0
HasRoomAhead h = length h.events + EVENTS_AHEAD ≤ event_limit

-- ... and the next line may be handled: as many jobs are out as may be, or no line of the display waits
pub record IsAbreast (owner : Owner) : Type 0 where
  pub shown : IsShown owner
  pub busy : IsBusy owner
  pub room : HasRoomAhead owner.display

-- the display is settled: each line is wrapped at the width. Or it isn't: no job was waited for since its last line
abbrev pub IsPrepared : Bool → History → Type 0
IsPrepared true h = is_settled (present_of h) ≡ true
IsPrepared false h = LandsFirst h.events

-- ... as a line of this verdict wants it
abbrev pub IsPreparedFor : Verdict → History → Type 0
IsPreparedFor verdict h = IsPrepared (needs_settled (Some verdict)) h

-- what an owner did for that from one history to the other
abbrev pub HasPrepared : Bool → History → History → Type 0
HasPrepared true old new = is_settled (present_of new) ≡ true
HasPrepared false old new = GoesWithout is_any_landing old new

-- what is so of the display before its next line
pub record MayHandle (workers : ℕ) (h : History) (verdict : Verdict) : Type 0 where
  pub busy : (next_run (state_of h) ≡ None) ⊎ (outstanding (state_of h) ≡ 2 * workers)
  pub prepared : IsPreparedFor verdict h
  pub room : HasRoomAhead h

-- where a run of so many workers went on before, it goes on after, or it stopped
abbrev pub GoesOn : ℕ → History → History → Result (Unit {0}) Stop → Type 0
GoesOn workers old new (Ok done) =
    (course : Course) (left : List (ℕ × Entry)) (tally : Tally) (sink : SinkState) → course.workers ≡ workers
    → IsGoing course left tally (at old sink) → IsGoing course left tally (at new sink)
GoesOn workers old new (Err stop) =
    (course : Course) (left : List (ℕ × Entry)) (tally : Tally) (sink : SinkState) → course.workers ≡ workers
    → IsGoing course left tally (at old sink) → IsCut None course (at new sink) stop

-- ---- entries

-- why a line was not recorded, after which the journal would have so many events
abbrev pub IsUnrecorded : ℕ → Stop → Type 0
IsUnrecorded events stops.Write = ⊥
IsUnrecorded events stops.JournalFull = event_limit < events
IsUnrecorded events stops.Memory = events ≤ event_limit

-- the operations of a change, and after them a version, where there is one
abbrev pub changed : List Operation → List Event
changed [] = []
changed (op ∷ ops) = map (λ op. Did op) (op ∷ ops) ++ Published false ∷ []

-- what became of a change: its refusal, or none where it was done
abbrev pub HasChanged : History → Change → History → Option Refusal → Type 0
HasChanged old change new None = (change_refusal (present_of old) change ≡ None) × (new ≡ appended old (changed (ops_of change)))
HasChanged old change new (Some refusal) = (change_refusal (present_of old) change ≡ Some refusal) × (new ≡ old)

-- memory ran out before a change was done, before its version was published, or before that was shown
abbrev pub IsWithinChange : History → Change → History → Type 0
IsWithinChange old change new =
    (new ≡ old)
    ⊎ ((change_refusal (present_of old) change ≡ None)
    × ((new ≡ appended old (map (λ op. Did op) (ops_of change))) ⊎ (new ≡ appended old (changed (ops_of change)))))

-- how the handling of an entry ended: the run goes on with the entries after it, or it stopped
abbrev pub IsHandled : Course → List (ℕ × Entry) → Tally → Stage → Result Outcome Stop → Type 0
IsHandled course left tally s (Ok outcome) = IsGoing course left (tallied tally outcome) s
IsHandled course left tally s (Err stop) = IsCut None course s stop

-- the next entry, of this number, is handled, where the record gives this verdict on it
abbrev pub Handles : ℕ → ℕ → Verdict → Stage → Stage → Result Outcome Stop → Type 0
Handles workers number verdict old new result =
    (course : Course) (left : List (ℕ × Entry)) (tally : Tally) (entry : Entry) → course.workers ≡ workers
    → IsGoing course ((number, entry) ∷ left) tally old → judged (present_of old.history) entry ≡ verdict
    → IsHandled course left tally new result

-- ... and where it isn't read for this fault
abbrev pub HandlesUnread : ℕ → ℕ → Fault → Stage → Stage → Result Outcome Stop → Type 0
HandlesUnread workers number (faults.Refused refusal) old new result = Handles workers number (Refused refusal) old new result
HandlesUnread workers number faults.NoMemory old new result =
    (course : Course) (left : List (ℕ × Entry)) (tally : Tally) (entry : Entry) → course.workers ≡ workers
    → IsGoing course ((number, entry) ∷ left) tally old → IsHandled course left tally new result

-- the verdict on a question
abbrev pub query_verdict : History → Query → Verdict
query_verdict h query = refused_or (Ask query) (query_refusal (present_of h) query)

-- ... and where it asks a question
abbrev pub HandlesQuery : ℕ → ℕ → Query → Stage → Stage → Result Outcome Stop → Type 0
HandlesQuery workers number query old new result = Handles workers number (query_verdict old.history query) old new result

-- ... and where it asks for a change
abbrev pub HandlesChange : ℕ → ℕ → Change → Stage → Stage → Result Outcome Stop → Type 0
HandlesChange workers number change old new result =
    (course : Course) (left : List (ℕ × Entry)) (tally : Tally) (entry : Entry) → course.workers ≡ workers
    → IsGoing course ((number, entry) ∷ left) tally old
    → judged (present_of old.history) entry ≡ refused_or (meaning (asks.Change change)) (change_refusal (present_of old.history) change)
    → asked_by (present_of old.history) entry ≡ asked_by_command (Some (meaning (asks.Change change)))
    → IsHandled course left tally new result

-- what was read of a line on a text
pub record IsReadOn (form : Form) (text line : List ℕ) (asked : Asked) : Type 0 where
  pub within : length line ≤ LINE_LIMIT
  pub command : command_of form text line ≡ Some (meaning asked)
  pub fits : is_id_over (meaning asked) ≡ false

-- why a line was not read on a text. Out of memory may come at any time
abbrev pub IsUnreadOn : Form → List ℕ → List ℕ → Fault → Type 0
IsUnreadOn form text line (faults.Refused refusal) = IsLineRefused form text line (faults.Refused refusal)
IsUnreadOn form text line faults.NoMemory = Unit {0}

-- what was read is accepted on a record, and wants the display settled
abbrev pub read_wants_settled : Record → Result Asked Fault → Bool
read_wants_settled r (Ok asked) = needs_settled (Some (refused_or (meaning asked) (command_refusal r (meaning asked))))
read_wants_settled r (Err fault) = false

-- a line that is the next entry is handled
abbrev pub HandlesLine : ℕ → ℕ → Form → List ℕ → Stage → Stage → Result Outcome Stop → Type 0
HandlesLine workers number form line old new result =
    (course : Course) (left : List (ℕ × Entry)) (tally : Tally) → course.workers ≡ workers
    → IsGoing course ((number, Bytes form line) ∷ left) tally old → IsHandled course left tally new result

-- the lines that aren't blank as entries of one form, each with its number. The first line of all has the given one
abbrev pub numbered_from : Form → ℕ → List (List ℕ) → List (ℕ × Entry)
numbered_from form number lines = map (λ l. (l.0, Bytes form l.1)) (filled_from number lines)

-- the first of some lines is handled, or skipped
abbrev pub HandlesFirst : ℕ → ℕ → Form → List ℕ → Stage → Stage → Result Outcome Stop → Type 0
HandlesFirst workers number form line old new result =
    (course : Course) (lines : List (List ℕ)) (tally : Tally) → course.workers ≡ workers
    → IsGoing course (numbered_from form number (line ∷ lines)) tally old
    → IsHandled course (numbered_from form (number + 1) lines) tally new result

-- how the handling of all entries ended
abbrev pub AreHandled : Course → Stage → Result Tally Stop → Type 0
AreHandled course s (Ok tally) = IsGoing course [] tally s
AreHandled course s (Err stop) = IsCut None course s stop

-- all lines after so many that were passed are handled
abbrev pub HandlesAll : ℕ → Form → ℕ → List (List ℕ) → Stage → Stage → Result Tally Stop → Type 0
HandlesAll workers form passed lines old new result =
    (course : Course) → course.workers ≡ workers → IsGoing course (numbered_from form (passed + 1) lines) no_lines old
    → AreHandled course new result

-- all entries of a script are handled
abbrev pub HandlesScript : ℕ → List ℕ → Stage → Stage → Result Tally Stop → Type 0
HandlesScript workers script old new result =
    (course : Course) → course.workers ≡ workers → IsGoing course (numbered_lines script) no_lines old → AreHandled course new result

-- ---- the whole run

-- a run published its last version, its journal has room left, what is reported was written, and `tally` was counted
pub record IsPlayed (make : Option ℕ) (course : Course) (tally : Tally) (s : Stage) : Type 0 where
  pub opening : s.history.opening ≡ course.text
  pub legal : IsLegal course.text course.entries course.workers s.history.events
  pub written : Takes (reported make course.text course.entries s.history.events) course.sink s.sink
  pub tallied : tally_of course.text course.entries s.history.events ≡ tally
  pub room : length s.history.events < event_limit

-- how a play ended: the last version was published, or it stopped
abbrev pub HasEnded : Option ℕ → Course → Stage → Result Tally Stop → Type 0
HasEnded make course s (Ok tally) = IsPlayed make course tally s
HasEnded make course s (Err stop) = IsCut make course s stop

-- how the end of a play of so many workers went, after its last entry
abbrev pub Ends : ℕ → History → History → Result (Unit {0}) Stop → Type 0
Ends workers old new (Ok done) =
    (course : Course) (tally : Tally) (sink : SinkState) → course.workers ≡ workers
    → IsGoing course [] tally (at old sink) → IsPlayed None course tally (at new sink)
Ends workers old new (Err stop) =
    (course : Course) (tally : Tally) (sink : SinkState) → course.workers ≡ workers
    → IsGoing course [] tally (at old sink) → IsCut None course (at new sink) stop

-- a script was played on a display that was opened, and its answers were written, or with a make their summary
abbrev pub PlaysBy : Option ℕ → ℕ → List ℕ → Stage → Stage → Result Tally Stop → Type 0
PlaysBy make workers script old new result =
    (course : Course) → course.workers ≡ workers → IsGoing course (numbered_lines script) no_lines old → HasEnded make course new result

-- ... its answers
abbrev pub PlaysAll : ℕ → List ℕ → Stage → Stage → Result Tally Stop → Type 0
PlaysAll = PlaysBy None
