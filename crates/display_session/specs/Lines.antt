-- What a line of a script does to the display of a session, and what is kept as its answer.
use Rattle.std.specs.Prelude.{ℕ, ◌≡◌, Bool, true, false, List, [], map}
use Rattle.display_sheet.specs.Changes.{operations_in}
use Rattle.display_map.specs.Events.{Did}
use Rattle.display_map.specs.Replay.{History, appended, is_settled, present_of}
use Rattle.edit_script.specs.declared.asked.Form.TheVariants.{Second}
use Rattle.edit_script.specs.declared.asked.Query.{Query}
use Rattle.edit_script.specs.Answers.{lines_of}
use Rattle.edit_script.specs.Commands.{Command, Apply, Ask, AskCaret, Settle}
use Rattle.edit_script.specs.Verdict.{Verdict, Refused, Accepted, query_refusal, query_wants_settled, refused_or, verdict}
use Rattle.display_session.specs.declared.trouble.Trouble.{Trouble}
use Rattle.display_session.specs.declared.trouble.Trouble.TheVariants as troubles
use Rattle.display_session.specs.Answers.{printed}
use Rattle.display_session.specs.CaretLines.{caret_lines}
use Rattle.display_session.specs.Wrapping.{IsWrapped}

-- nothing happened but that lines were wrapped, and now every line stands wrapped at the width
pub record IsSettled (old new : History) : Type 0 where
  pub wrapped : IsWrapped old new
  pub all : is_settled (present_of new) ≡ true

-- the display is as a question wants it: every line is wrapped, or nothing happened
abbrev pub IsReady : Bool → History → History → Type 0
IsReady true old new = IsSettled old new
IsReady false old new = new ≡ old

-- what an accepted command did, and what is kept as its answer
abbrev pub HasDone : Command → History → History → List ℕ → Type 0
HasDone (Apply change) old new kept = (new ≡ appended old (map Did (operations_in change))) × (kept ≡ [])
HasDone (Ask query) old new kept =
    IsReady (query_wants_settled query) old new × (kept ≡ printed (lines_of new query))
HasDone (AskCaret query) old new kept =
    IsSettled old new × (kept ≡ printed (caret_lines (present_of new) query))
HasDone Settle old new kept = IsSettled old new × (kept ≡ [])

-- what was done at a verdict. Nothing is where it is a refusal
abbrev pub HasDoneAt : Verdict → History → History → List ℕ → Type 0
HasDoneAt (Refused refusal) old new kept = ⊥
HasDoneAt (Accepted command) old new kept = HasDone command old new kept

-- a refusal is that of the verdict, and nothing happened. Where there was no memory or no room in the journal, nothing
-- happened but that lines were wrapped
abbrev pub HasFailedAt : Verdict → History → History → Trouble → Type 0
HasFailedAt verdict old new (troubles.Refused refusal) = (verdict ≡ Refused refusal) × (new ≡ old)
HasFailedAt verdict old new troubles.NotUtf8 = ⊥
HasFailedAt verdict old new _ = IsWrapped old new

-- the verdict on a line of the second form
abbrev pub verdict_on : History → List ℕ → Verdict
verdict_on display line = verdict Second (present_of display) line

-- the verdict on a question
abbrev pub query_verdict : History → Query → Verdict
query_verdict display query = refused_or (Ask query) (query_refusal (present_of display) query)
