-- What the laws of runs say of a history.
use Rattle.std.specs.Prelude.{ℕ, ◌≡◌, List, [], ◌∷◌, ◌++◌, flat_map, map, take, Option, Some}
use mathlib.Core.List.{IsPrefix}
use Rattle.cell_units.specs.Lawful.{IsLawful}
use Rattle.cell_units.specs.Operation.{Operation}
use Rattle.cell_units.specs.Text.{IsText, clean}
use Rattle.cell_line.specs.declared.element.Element.{Element}
use Rattle.edit_patch.specs.declared.edit.Edit.{Edit}
use Rattle.wrap_workers.specs.Jobs.{JobParts}
use Rattle.display_map.specs.Events.{Event, Did, Landed, Line}
use Rattle.display_map.specs.Identity.{HaveSameLines}
use Rattle.display_map.specs.LawfulStates.{EventsFit}
use Rattle.display_map.specs.LinePatches.{CameByStamp, IsPatchOver}
use Rattle.display_map.specs.Replay.{begun, present_of, state_of}
use Rattle.display_map.specs.Sending.{GivesCuts, IsOutstanding}
use Rattle.edit_script.specs.Verdict.{Accepted, Verdict, ops_of}
use Rattle.command_line.specs.declared.plan.Plan.{Plan}
use Rattle.script_runner.specs.Entries.{Entry, numbered_lines}
use Rattle.script_runner.specs.Legal.{AtEach, IsLegal, IsLegalSoFar, history_of, lines_in, next_verdict}
use Rattle.display_cli.specs.Ended.{HasRead, Run}

-- ---- the script

-- the number of the line that an event handles, if it handles one
abbrev pub number_at : Event → List ℕ
number_at (Line number) = number ∷ []
number_at _ = []

-- the numbers of the lines that a history has handled, in order
abbrev pub numbers_in : List Event → List ℕ
numbers_in history = flat_map number_at history

-- the operation that an event does, if it does one
abbrev pub operation_at : Event → List Operation
operation_at (Did op) = op ∷ []
operation_at _ = []

-- the operations that a history has done, in order
abbrev pub operations_done : List Event → List Operation
operations_done history = flat_map operation_at history

-- the operations of an accepted command
abbrev pub operations_by : Option Verdict → List Operation
operations_by (Some (Accepted command)) = ops_of command
operations_by _ = []

-- the operations that an event asks for after others: where it handles a line that is accepted, those of its command
abbrev pub asked_at : List ℕ → List (ℕ × Entry) → List Event → Event → List Operation
asked_at text entries past (Line number) = operations_by (next_verdict text entries past)
asked_at text entries past _ = []

-- those that events ask for after those of the past, in order
abbrev pub asked_from : List ℕ → List (ℕ × Entry) → List Event → List Event → List Operation
asked_from text entries past [] = []
asked_from text entries past (e ∷ events) =
    asked_at text entries past e ++ asked_from text entries (past ++ e ∷ []) events

-- the operations that the lines of a history ask for, in order
abbrev pub operations_asked : List ℕ → List (ℕ × Entry) → List Event → List Operation
operations_asked text entries history = asked_from text entries [] history

-- the lines of a history are the first of the script, in order, and it has done the first of the operations that they
-- ask for, in order
pub record FollowsScript (text : List ℕ) (entries : List (ℕ × Entry)) (history : List Event) : Type 0 where
  pub lines : numbers_in history ≡ take (lines_in history) (map (λ l. l.0) entries)
  pub operations : IsPrefix (operations_done history) (operations_asked text entries history)

-- ... it has all lines of the script, and has done all operations that they ask for
pub record EndsScript (text : List ℕ) (entries : List (ℕ × Entry)) (history : List Event) : Type 0 where
  pub lines : numbers_in history ≡ map (λ l. l.0) entries
  pub operations : operations_done history ≡ operations_asked text entries history

-- ---- the records

-- each operation of a history was allowed where it was done, and the record after each prefix is lawful
pub record LeadsToLawful (text : List ℕ) (history : List Event) : Type 0 where
  pub fits : EventsFit (begun text) history
  pub lawful : (past : List Event) → IsPrefix past history → IsLawful (present_of (history_of text past))

-- from the record after some events to that after more there is a composition of line patches. By it a display line
-- came from another exactly where both have one stamp
pub record HasLinePatch (text : List ℕ) (past more : List Event) : Type 0 where
  pub patch : List Edit
  pub over : IsPatchOver (state_of (history_of text past)) more patch
  pub came : CameByStamp patch (present_of (history_of text past)) (present_of (history_of text (past ++ more)))

-- a landing is that of a job that is out. The job's cuts are those of exactly the present lines that the landing marks
abbrev pub LandsCuts : List ℕ → List Event → Event → Type 0
LandsCuts text past e =
    (number : ℕ) → e ≡ Landed number →
    (job : JobParts (List (List Element)))
    × (job.number ≡ number)
    × IsOutstanding (history_of text past) job
    × GivesCuts (state_of (history_of text past)) job

-- display lines of one stamp are one line, after whichever prefixes of a history: they have equal elements, by the line
-- patches one came from the other, and late cuts are theirs
pub record KeepsLines (text : List ℕ) (history : List Event) : Type 0 where
  pub same : (past other : List Event) → IsPrefix past history → IsPrefix other history →
      HaveSameLines (present_of (history_of text past)) (present_of (history_of text other))
  pub patches : (past more : List Event) → IsPrefix (past ++ more) history → HasLinePatch text past more
  pub landings : AtEach (LandsCuts text) history

-- ---- runs

-- so it is of each history that is legal so far, on a text
abbrev pub OfLegalSoFar : (List ℕ → List (ℕ × Entry) → List Event → Type 0) → Type 0
OfLegalSoFar P =
    (text : List ℕ) (entries : List (ℕ × Entry)) (workers : ℕ) (history : List Event) →
    IsText text → IsLegalSoFar text entries workers history → P text entries history

-- ... of each legal one
abbrev pub OfLegal : (List ℕ → List (ℕ × Entry) → List Event → Type 0) → Type 0
OfLegal P =
    (text : List ℕ) (entries : List (ℕ × Entry)) (workers : ℕ) (history : List Event) →
    IsText text → IsLegal text entries workers history → P text entries history

-- a run that has read its text and its script: its history is legal so far, leads to lawful records, keeps the display
-- lines and follows the script
pub record HasLawfulHistory (plan : Plan) (run : Run) : Type 0 where
  pub read : HasRead plan run
  pub legal : IsLegalSoFar (clean read.bytes) (numbered_lines read.script) plan.workers run.history
  pub records : LeadsToLawful (clean read.bytes) run.history
  pub lines : KeepsLines (clean read.bytes) run.history
  pub script : FollowsScript (clean read.bytes) (numbered_lines read.script) run.history
