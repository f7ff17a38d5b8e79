-- What a run of a script for several views is: the session theorem, and the undo theorem.
use Rattle.std.specs.Prelude.{ℕ, ◌≡◌, ◌+◌, ◌<◌, ◌++◌, Bool, All, List, [], ◌∷◌, length, drop, Option, Some, None}
use Rattle.display_sheet.specs.declared.change.Splice.{Splice}
use Rattle.display_map.specs.Events.{Event, event_limit}
use Rattle.display_map.specs.Replay.{History, present_of}
use Rattle.edit_script.specs.declared.asked.Form.TheVariants.{First}
use Rattle.live_display.specs.declared.owner.TheConstants.{EVENTS_AHEAD}
use Rattle.script_runner.specs.Entries.{Bytes, Entry, asked_by}
use Rattle.script_runner.specs.Legal.{IsOrderly, IsOrderlySoFar, lines_in}
use Rattle.script_runner.specs.Outside.{SinkState, Takes, TakesFront}
use Rattle.split_views.specs.Views.{history_of}
use Rattle.split_script.specs.Lines.{Own, SplitLine}
use Rattle.split_script.specs.Met.{Met, before_line, met, step_of, steps_through, text_line}
use Rattle.split_script.specs.Output.{answered, has_refused}
use Rattle.split_script.specs.Parts.{batch_line, batch_of, part_of}

-- what a run is given: the opening text, how many views there are, the lines with their numbers, and its sink
pub record SplitCourse : Type 0 where
  pub text : List ℕ
  pub views : ℕ
  pub lines : List (ℕ × SplitLine)
  pub sink : SinkState

-- a fact about the events of each view, given its part of some lines
abbrev pub AtEachView : List ℕ → ℕ → List History → List (ℕ × SplitLine) → (List (ℕ × Entry) → List Event → Type 0) → Type 0
AtEachView text views histories lines P =
    (view : ℕ) → view < views → P (part_of text view (met histories lines)) (history_of histories view).events

-- so many histories of one opening text
pub record AreHistories (course : SplitCourse) (histories : List History) : Type 0 where
  pub count : length histories ≡ course.views
  pub opening : (view : ℕ) → view < course.views → (history_of histories view).opening ≡ course.text

-- the undo theorem: after each line the text of every view is the present one of the line of texts
abbrev pub FollowsTexts : List ℕ → ℕ → List History → Met → Type 0
FollowsTexts text views histories m =
    (view : ℕ) → view < views
    → (present_of (before_line (m.number + 1) (history_of histories view))).text ≡ (text_line text (steps_through m)).present

abbrev pub FollowTexts : SplitCourse → List History → List (ℕ × SplitLine) → Type 0
FollowTexts course histories lines = All (FollowsTexts course.text course.views histories) (met histories lines)

-- the session theorem, of a finished run: the history of each view is orderly for its part and one worker, so each view
-- answers what it would answer alone. All answers were written, and it is known whether a line was refused
pub record IsFinished (course : SplitCourse) (histories : List History) (sink : SinkState) (refused : Bool) : Type 0 where
  pub views : AreHistories course histories
  pub orderly : AtEachView course.text course.views histories course.lines (λ entries events. IsOrderly course.text entries 1 events)
  pub texts : FollowTexts course histories course.lines
  pub written : Takes (answered course.text (met histories course.lines)) course.sink sink
  pub refusals : has_refused course.text (met histories course.lines) ≡ refused

-- some of the lines, and those after them
pub record Parted (lines : List (ℕ × SplitLine)) : Type 0 where
  pub done : List (ℕ × SplitLine)
  pub rest : List (ℕ × SplitLine)
  pub all : done ++ rest ≡ lines

-- ... and of a stopped run: the histories are orderly so far, and a prefix of the answers was written
pub record IsStopped (course : SplitCourse) (histories : List History) (sink : SinkState) : Type 0 where
  pub views : AreHistories course histories
  pub orderly : AtEachView course.text course.views histories course.lines (λ entries events. IsOrderlySoFar course.text entries 1 events)
  pub written : TakesFront (answered course.text (met histories course.lines)) course.sink sink
  pub parted : Parted course.lines
  pub texts : FollowTexts course histories parted.done

-- ---- the journals' room

abbrev pub entries_of : Option (List Splice) → ℕ
entries_of None = 0
entries_of (Some splices) = length splices

-- how many operations a line that is met asks for, accepted or not. An entry of a batch counts as one
abbrev pub asked_for : List ℕ → Met → SplitLine → ℕ
asked_for text m (Own view bytes) = asked_by (present_of m.before) (Bytes First bytes)
asked_for text m line = entries_of (batch_of (batch_line text m.past) (step_of m))

-- ... and by the first of some lines, if there is one
abbrev pub asked_first : List ℕ → List Met → ℕ
asked_first text [] = 0
asked_first text (m ∷ lines) = asked_for text m m.line

-- so many lines were handled that some journal has no room for the events of a step and the operations of the next line
pub record IsFull (course : SplitCourse) (histories : List History) : Type 0 where
  pub parted : Parted course.lines
  pub handled : AtEachView course.text course.views histories parted.done (λ entries events. lines_in events ≡ length entries)
  pub view : ℕ
  pub there : view < course.views
  pub full : event_limit
      < length (history_of histories view).events + EVENTS_AHEAD
      + asked_first course.text (drop (length parted.done) (met histories course.lines))

-- every history has begun
abbrev pub HaveBegun : SplitCourse → List History → Type 0
HaveBegun course histories = (view : ℕ) → view < course.views → 0 < length (history_of histories view).events
