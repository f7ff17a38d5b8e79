-- How far a script for several views has come between two events.
use Rattle.std.specs.Prelude.{ℕ, suc, ◌≡◌, ◌+◌, ◌<◌, ◌≤◌, ◌⊎◌, ◌||◌, All, Bool, true, false, List, [], ◌∷◌, ◌++◌, length, map, replicate, Some, None, Result, Ok, Err}
use Rattle.std.specs.List.{AllByRecursion, enumerate_from, range_with_len}
use Rattle.std.specs.Str.{IsUtf8}
use Rattle.cell_units.specs.declared.fault.Refusal.{Refusal}
use Rattle.display_map.specs.Events.{Did, Event, Line, event_limit}
use Rattle.display_map.specs.Replay.{History, appended, is_settled, present_of, state_of, versions_of}
use Rattle.display_sheet.specs.declared.change.Change.{Change}
use Rattle.display_sheet.specs.declared.change.Splice.{Splice}
use Rattle.display_sheet.specs.Changes.{batch, change_refusal, edit_refusal}
use Rattle.cell_units.specs.declared.fault.Fault.{Fault}
use Rattle.cell_units.specs.declared.fault.Fault.TheVariants as faults
use Rattle.edit_script.specs.declared.asked.Asked.TheVariants as asks
use Rattle.edit_script.specs.declared.asked.Form.TheVariants.{First}
use Rattle.edit_script.specs.declared.asked.Query.{Query}
use Rattle.edit_script.specs.Commands.{Ask, meaning}
use Rattle.edit_script.specs.Printed.{refusal_text}
use Rattle.edit_script.specs.Verdict.{Refused, Verdict, query_refusal, refused_or}
use Rattle.script_runner.specs.declared.stop.Stop.{Stop}
use Rattle.script_runner.specs.declared.stop.Stop.TheVariants as stops
use Rattle.script_runner.specs.Entries.{Bytes, Entry, asked_by, asked_by_command}
use Rattle.script_runner.specs.Going.{IsFree, changed}
use Rattle.script_runner.specs.Legal.{IsOrderlySoFar, lines_in}
use Rattle.script_runner.specs.Outside.{HasRisen, SinkState, Takes}
use Rattle.live_display.specs.declared.owner.TheConstants.{EVENTS_AHEAD}
use Rattle.split_views.specs.declared.split.TheConstants.{VIEW_LIMIT}
use Rattle.split_views.specs.Views.{history_of}
use Rattle.split_views.specs.Whole.{IsOneFull}
use Rattle.split_views.specs.Wrapping.{IsIdle}
use Rattle.undo_line.specs.TextLines.{IsLineOf, opened_line}
use Rattle.undo_line.specs.UndoParts.{UndoParts}
use Rattle.split_script.specs.Lines.{Own, SplitLine, split_line}
use Rattle.split_script.specs.Met.{Step, HaveOwnLines, OwnIsThere, has_line_from, met, met_at, numbered, steps_of, steps_through, text_line, verdict_on}
use Rattle.split_script.specs.Output.{answered, has_refused, lines_of, refuses}
use Rattle.split_script.specs.Parts.{batch_line, entry_of, part_of}
use Rattle.split_script.specs.Theorems.{AreHistories, FollowsTexts, HaveBegun, IsFinished, IsFull, IsStopped, SplitCourse}
use Rattle.split_runner.specs.declared.runner.Runner.{Runner}

-- the histories of the views, what undo and redo take, and the sink
pub record Stage : Type 0 where
  pub histories : List History
  pub undo : UndoParts
  pub sink : SinkState

abbrev pub at : List History → UndoParts → SinkState → Stage
at histories undo sink = record { histories = histories; undo = undo; sink = sink }

-- how far a runner has come
abbrev pub stage : {K : Type 0} → (K → SinkState) → Runner K → Stage
stage state runner = at runner.split runner.undo (state runner.out.now)

-- the jobs that were sent are numbered from 1
abbrev pub AreNumbered : History → Type 0
AreNumbered h = map (λ job. job.number) (state_of h).jobs ≡ range_with_len 1 (length (state_of h).jobs)

-- a view between two lines, of which this is its part so far: whatever entries come later, its history is orderly and owes
-- no event. Every entry was handled, and no job is out
pub record IsUnderWay (part : List (ℕ × Entry)) (h : History) : Type 0 where
  pub orderly : (later : List (ℕ × Entry)) → IsOrderlySoFar h.opening (part ++ later) 1 h.events
  pub free : (later : List (ℕ × Entry)) → IsFree h.opening (part ++ later) h.events
  pub handled : lines_in h.events ≡ length part
  pub idle : IsIdle h
  pub numbered : AreNumbered h

-- a fact about each view, given its part of some lines
abbrev pub OfEachView : SplitCourse → List History → List (ℕ × SplitLine) → (List (ℕ × Entry) → History → Type 0) → Type 0
OfEachView course histories lines P =
    (view : ℕ) → view < course.views → P (part_of course.text view (met histories lines)) (history_of histories view)

-- no line of a number, or a later one, was handled yet
abbrev pub IsBelow : ℕ → History → Type 0
IsBelow number h = has_line_from number h.events ≡ false

-- the batches that wait are those of the line of batches, and lead along the line of texts
pub record IsUndoAfter (text : List ℕ) (steps : List Step) (undo : UndoParts) : Type 0 where
  pub past : undo.past ≡ (batch_line text steps).past
  pub future : undo.future ≡ (batch_line text steps).future
  pub present : (batch_line text steps).present ≡ (text_line text steps).present
  pub leads : IsLineOf undo (text_line text steps)

-- a run goes on: these lines are done, and whether one of them was refused
pub record IsGoing (course : SplitCourse) (done : List (ℕ × SplitLine)) (refused : Bool) (s : Stage) : Type 0 where
  pub views : AreHistories course s.histories
  pub under_way : OfEachView course s.histories done IsUnderWay
  pub below : OfEachView course s.histories done (λ part h. IsBelow (suc (length done)) h)
  pub there : HaveOwnLines s.histories done
  pub numbers : AllByRecursion (λ m. m.number ≤ length done) (met s.histories done)
  pub texts : AllByRecursion (FollowsTexts course.text course.views s.histories) (met s.histories done)
  pub present : OfEachView course s.histories done
      (λ part h. (present_of h).text ≡ (text_line course.text (steps_of s.histories done)).present)
  pub undo : IsUndoAfter course.text (steps_of s.histories done) s.undo
  pub written : Takes (answered course.text (met s.histories done)) course.sink s.sink
  pub refusals : has_refused course.text (met s.histories done) ≡ refused

-- ... and every view is settled, and has room for the events of a step
pub record IsReady (course : SplitCourse) (done : List (ℕ × SplitLine)) (refused : Bool) (s : Stage) : Type 0 where
  pub going : IsGoing course done refused s
  pub settled : OfEachView course s.histories done (λ part h. is_settled (present_of h) ≡ true)
  pub room : OfEachView course s.histories done (λ part h. length h.events + EVENTS_AHEAD ≤ event_limit)

-- why a run stopped
abbrev pub IsWhy : SplitCourse → List History → SinkState → Stop → Type 0
IsWhy course histories sink stops.Write = HaveBegun course histories × HasRisen course.sink.faults sink.faults
IsWhy course histories sink stops.JournalFull = HaveBegun course histories × IsFull course histories
IsWhy course histories sink stops.Memory = sink.faults ≡ course.sink.faults

-- a run stopped, where these lines and later ones are those of its script
pub record IsCut (course : SplitCourse) (s : Stage) (stop : Stop) : Type 0 where
  pub stopped : IsStopped course s.histories s.sink
  pub why : IsWhy course s.histories s.sink stop

-- the course of lines of which these come first
abbrev pub on : SplitCourse → List (ℕ × SplitLine) → SplitCourse
on course lines = record course { lines = lines }

-- the next line is handled, or the run stops, whichever lines come later
abbrev pub IsHandled : SplitCourse → List (ℕ × SplitLine) → Bool → Stage → Result Bool Stop → Type 0
IsHandled course done refused s (Ok again) = IsGoing course done (refused || again) s
IsHandled course done refused s (Err stop) = (later : List (ℕ × SplitLine)) → IsCut (on course (done ++ later)) s stop

-- what the handling of a line of this number makes of a run that goes on
abbrev pub Handles : ℕ → SplitLine → Stage → Stage → Result Bool Stop → Type 0
Handles number line old new result =
    (course : SplitCourse) (done : List (ℕ × SplitLine)) (refused : Bool) → number ≡ suc (length done)
    → IsGoing course done refused old → IsHandled course (done ++ (number, line) ∷ []) refused new result

-- ... where every view is settled
abbrev pub HandlesReady : ℕ → SplitLine → Stage → Stage → Result Bool Stop → Type 0
HandlesReady number line old new result =
    (course : SplitCourse) (done : List (ℕ × SplitLine)) (refused : Bool) → number ≡ suc (length done)
    → IsReady course done refused old → IsHandled course (done ++ (number, line) ∷ []) refused new result

-- ---- what the calls ask for, and what they say

-- some run goes on so
abbrev pub GoesOn : Stage → Type 0
GoesOn s = (course : SplitCourse) × (done : List (ℕ × SplitLine)) × (refused : Bool) × IsGoing course done refused s

-- ... and so many of its lines are done
abbrev pub GoesOnAfter : ℕ → Stage → Type 0
GoesOnAfter count s =
    (course : SplitCourse) × (done : List (ℕ × SplitLine)) × (refused : Bool) × (length done ≡ count) × IsGoing course done refused s

-- every view is settled, or the run stops, whichever lines come later
abbrev pub AreSettled : SplitCourse → List (ℕ × SplitLine) → Bool → Stage → Result (Unit {0}) Stop → Type 0
AreSettled course done refused s (Ok all) =
    IsGoing course done refused s × ((view : ℕ) → view < course.views → is_settled (present_of (history_of s.histories view)) ≡ true)
AreSettled course done refused s (Err stop) = (later : List (ℕ × SplitLine)) → IsCut (on course (done ++ later)) s stop

abbrev pub Settles : Stage → Stage → Result (Unit {0}) Stop → Type 0
Settles old new result =
    (course : SplitCourse) (done : List (ℕ × SplitLine)) (refused : Bool)
    → IsGoing course done refused old → AreSettled course done refused new result

-- every journal has room for so many events
abbrev pub HaveRoomFor : ℕ → List History → Type 0
HaveRoomFor events histories = All (λ h. length h.events + events ≤ event_limit) histories

-- why there is too little room
abbrev pub IsTooFull : ℕ → List History → Stop → Type 0
IsTooFull events histories stop = (stop ≡ stops.JournalFull) × IsOneFull events histories

-- a view may handle its next line: it is there, every journal has room for the events of a step, and it was published
pub record MayHandle (view : ℕ) (histories : List History) : Type 0 where
  pub there : view < length histories
  pub few : length histories ≤ VIEW_LIMIT
  pub room : HaveRoomFor EVENTS_AHEAD histories
  pub published : 1 ≤ versions_of (history_of histories view).events

-- a line of a view is of one that is there
abbrev pub IsOfViews : ℕ → SplitLine → Type 0
IsOfViews views (Own view bytes) = view < views
IsOfViews views line = Unit {0}

-- the line of a view is handled, on which it gives this verdict
abbrev pub HandlesOwn : ℕ → ℕ → Verdict → Stage → Stage → Result Bool Stop → Type 0
HandlesOwn number view verdict old new result =
    (bytes : List ℕ) → verdict_on (history_of old.histories view) bytes ≡ verdict
    → HandlesReady number (Own view bytes) old new result

-- ... and where it isn't read for this fault
abbrev pub HandlesUnread : ℕ → ℕ → Fault → Stage → Stage → Result Bool Stop → Type 0
HandlesUnread number view (faults.Refused refusal) old new result = HandlesOwn number view (Refused refusal) old new result
HandlesUnread number view faults.NoMemory old new result = (bytes : List ℕ) → HandlesReady number (Own view bytes) old new result

-- ... and where it asks a question
abbrev pub HandlesQuery : ℕ → ℕ → Query → Stage → Stage → Result Bool Stop → Type 0
HandlesQuery number view query old new result =
    HandlesOwn number view (refused_or (Ask query) (query_refusal (present_of (history_of old.histories view)) query)) old new result

-- the verdict on a change
abbrev pub change_verdict : History → Change → Verdict
change_verdict h change = refused_or (meaning (asks.Change change)) (change_refusal (present_of h) change)

-- ... and where it asks for a change
abbrev pub HandlesChange : ℕ → ℕ → Change → Stage → Stage → Result Bool Stop → Type 0
HandlesChange number view change old new result =
    (bytes : List ℕ) → verdict_on (history_of old.histories view) bytes ≡ change_verdict (history_of old.histories view) change
    → asked_by (present_of (history_of old.histories view)) (Bytes First bytes) ≡ asked_by_command (Some (meaning (asks.Change change)))
    → HandlesReady number (Own view bytes) old new result

-- ---- a batch that reaches every view

-- each history went on by events of its own
pub record AreMoved (old new : List History) (more : ℕ → List Event) : Type 0 where
  pub count : length new ≡ length old
  pub each : (view : ℕ) → view < length old → history_of new view ≡ appended (history_of old view) (more view)

-- a line's events with all operations of its batch, and maybe the version
abbrev pub IsPrefixOf : ℕ → List Splice → List Event → Type 0
IsPrefixOf number splices es =
    (es ≡ Line number ∷ map Did (batch splices)) ⊎ (es ≡ Line number ∷ changed (batch splices))

-- a batch was done in every view
abbrev pub done_in_all : ℕ → List Splice → List History → List History
done_in_all number splices histories = map (λ h. appended h (Line number ∷ changed (batch splices))) histories

-- its texts are UTF-8, and a view accepts it
pub record IsAcceptedIn (view : ℕ) (splices : List Splice) (histories : List History) : Type 0 where
  pub utf8 : All (λ s. IsUtf8 s.text) splices
  pub accepted : edit_refusal (present_of (history_of histories view)) splices ≡ None

-- ... and how far it came where there was no memory: nothing was done, or all, and some of the versions were published
pub record HasBegunIn (view number : ℕ) (splices : List Splice) (old new : List History) : Type 0 where
  pub accepted : IsAcceptedIn view splices old
  pub more : ℕ → List Event
  pub moved : AreMoved old new more
  pub each : (view : ℕ) → IsPrefixOf number splices (more view)

-- why a change was not done in every view
abbrev pub IsUnreached : (view number : ℕ) → Change → List Splice → List History → List History → Fault → Type 0
IsUnreached view number change splices old new (faults.Refused refusal) =
    (change_refusal (present_of (history_of old view)) change ≡ Some refusal) × (new ≡ old)
IsUnreached view number change splices old new faults.NoMemory = (new ≡ old) ⊎ HasBegunIn view number splices old new

-- why an undo or a redo was not done
abbrev pub IsUnrestored : ℕ → List Splice → List History → List History → Stop → Type 0
IsUnrestored number splices old new stops.Write = ⊥
IsUnrestored number splices old new stops.JournalFull = (new ≡ old) × IsOneFull (EVENTS_AHEAD + length splices) old
IsUnrestored number splices old new stops.Memory = (new ≡ old) ⊎ HasBegunIn 0 number splices old new

-- ---- lines of no view that are refused

-- a line that is nothing to any view, and is answered with a refusal
pub record IsRefusedLine (text : List ℕ) (histories : List History) (past : List Step) (l : ℕ × SplitLine) (refusal : Refusal) : Type 0 where
  pub no_entry : (view : ℕ) → entry_of text view (met_at histories past l) ≡ None
  pub texts : text_line text (steps_through (met_at histories past l)) ≡ text_line text past
  pub batches : batch_line text (steps_through (met_at histories past l)) ≡ batch_line text past
  pub answer : lines_of text (met_at histories past l) ≡ refusal_text refusal ∷ []
  pub refused : refuses text (met_at histories past l) ≡ true
  pub there : OwnIsThere histories l.0 l.1

abbrev pub HandlesRefused : Refusal → Stage → Stage → Result Bool Stop → Type 0
HandlesRefused refusal old new result =
    (course : SplitCourse) (done : List (ℕ × SplitLine)) (refused : Bool) (l : ℕ × SplitLine) → l.0 ≡ suc (length done)
    → IsGoing course done refused old → IsRefusedLine course.text old.histories (steps_of old.histories done) l refusal
    → IsHandled course (done ++ l ∷ []) refused new result

-- ---- the whole run

-- a runner still writes to the same sink
abbrev pub SameSink : {K : Type 0} → Runner K → Runner K → Type 0
SameSink old new = new.out.ghost_name ≡ old.out.ghost_name

-- so many lines are done, and these are left
pub record IsDone (course : SplitCourse) (number : ℕ) (refused : Bool) (left : List (List ℕ)) (s : Stage) : Type 0 where
  pub done : List (ℕ × SplitLine)
  pub all : course.lines ≡ done ++ enumerate_from (number + 1) (map (split_line course.views) left)
  pub count : length done ≡ number
  pub going : IsGoing course done refused s

-- all lines are handled, or the run stops
abbrev pub AreHandled : SplitCourse → Stage → Result Bool Stop → Type 0
AreHandled course s (Ok refused) = IsGoing course course.lines refused s
AreHandled course s (Err stop) = IsCut course s stop

abbrev pub HandlesAll : List (List ℕ) → Stage → Stage → Result Bool Stop → Type 0
HandlesAll lines old new result =
    (course : SplitCourse) → course.lines ≡ numbered course.views lines → IsGoing course [] false old → AreHandled course new result

-- the last versions are published, or the run stops
abbrev pub Finishes : Stage → Stage → Result (Unit {0}) Stop → Type 0
Finishes old new (Ok done) =
    (course : SplitCourse) (refused : Bool) → IsGoing course course.lines refused old → IsFinished course new.histories new.sink refused
Finishes old new (Err stop) = (course : SplitCourse) (refused : Bool) → IsGoing course course.lines refused old → IsCut course new stop

-- the course of lines of a script on so many views of a text
abbrev pub course_of : List ℕ → ℕ → List (List ℕ) → SinkState → SplitCourse
course_of text views lines sink = record { text = text; views = views; lines = numbered views lines; sink = sink }

-- so many views that were just started
abbrev pub started : List ℕ → ℕ → List History
started text views = replicate views (record { opening = text; events = [] })

-- ... and nothing was done yet
pub record IsStarted (text : List ℕ) (views : ℕ) (s : Stage) : Type 0 where
  pub histories : s.histories ≡ started text views
  pub past : s.undo.past ≡ []
  pub future : s.undo.future ≡ []
  pub line : IsLineOf s.undo (opened_line text)

abbrev pub HasStarted : Stage → Type 0
HasStarted s = (text : List ℕ) × (views : ℕ) × IsStarted text views s

-- the whole run is finished, or it stopped and why
abbrev pub IsPlayed : SplitCourse → List History → SinkState → Result Bool Stop → Type 0
IsPlayed course histories sink (Ok refused) = IsFinished course histories sink refused
IsPlayed course histories sink (Err stop) = IsStopped course histories sink × IsWhy course histories sink stop

abbrev pub PlaysAll : List (List ℕ) → Stage → Stage → Result Bool Stop → Type 0
PlaysAll lines old new result =
    (text : List ℕ) (views : ℕ) → IsStarted text views old → IsPlayed (course_of text views lines old.sink) new.histories new.sink result
