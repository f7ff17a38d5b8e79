-- Which lines are skipped, which of the others are refused on a record, and what an accepted command does.
use Rattle.std.specs.Prelude.{ℕ, ◌≡◌, ◌<◌, ◌≤◌, ◌==◌, ◌&&◌, ◌||◌, Bool, true, false, nat_lt, nat_le, if◌then◌else◌, List, [], length, Result, Ok, Err, Option, Some, None, option_map}
use Rattle.std.specs.List.{list_all}
use Rattle.std.specs.Str.{IsUtf8}
use Rattle.cell_units.specs.declared.fault.Refusal.{Refusal}
use Rattle.cell_units.specs.declared.fault.Refusal.TheVariants.{NotCommand, TooLong, BadNumber}
use Rattle.cell_units.specs.declared.fault.Fault.{Fault}
use Rattle.cell_units.specs.declared.fault.Fault.TheVariants as faults
use Rattle.cell_units.specs.Record.{Record}
use Rattle.cell_units.specs.Operation.{Operation, Replace, AddInlay, RemoveInlay, AddFold, RemoveFold, AddBlock, RemoveBlock, SetTab, SetWidth}
use Rattle.display_sheet.specs.Changes.{Edit, One, operations_in, refusal_of}
use Rattle.display_sheet.specs.Shown.{show_refusal}
use Rattle.edit_script.specs.declared.asked.Form.{Form}
use Rattle.edit_script.specs.declared.asked.Query.{Query}
use Rattle.edit_script.specs.declared.asked.Query.TheVariants as queries
use Rattle.edit_script.specs.declared.asked.Asked.{Asked}
use Rattle.edit_script.specs.declared.blank.TheConstants.{LINE_LIMIT}
use Rattle.edit_script.specs.declared.read.Unread.{Unread}
use Rattle.edit_script.specs.declared.read.Unread.TheVariants as unread
use Rattle.edit_script.specs.Commands.{Command, Apply, Ask, AskCaret, Settle, command_of, meaning, greatest_number}

-- a space, a tab or a carriage return
abbrev pub is_blank_byte : ℕ → Bool
is_blank_byte b = (b == 32) || ((b == 9) || (b == 13))

-- a line that is skipped
abbrev pub is_blank : List ℕ → Bool
is_blank line = nat_le (length line) LINE_LIMIT && list_all is_blank_byte line

pub data Verdict : Type 0 where
  Refused : Refusal → Verdict
  Accepted : Command → Verdict

abbrev pub refused_or : Command → Option Refusal → Verdict
refused_or command None = Accepted command
refused_or command (Some refusal) = Refused refusal

-- an operation names an id over the greatest number
abbrev pub is_operation_over : Operation → Bool
is_operation_over (Replace start end text) = false
is_operation_over (AddInlay inlay) = nat_lt greatest_number inlay.id
is_operation_over (RemoveInlay id) = nat_lt greatest_number id
is_operation_over (AddFold fold) = nat_lt greatest_number fold.id
is_operation_over (RemoveFold id) = nat_lt greatest_number id
is_operation_over (AddBlock row id side lines) = nat_lt greatest_number id
is_operation_over (RemoveBlock id) = nat_lt greatest_number id
is_operation_over (SetTab size) = false
is_operation_over (SetWidth cells) = false

-- the command names an id over the greatest number
abbrev pub is_over : Command → Bool
is_over (Apply (Edit splices)) = false
is_over (Apply (One operation)) = is_operation_over operation
is_over (Ask query) = false
is_over (AskCaret query) = false
is_over Settle = false

-- the operations that an accepted command does
abbrev pub ops_of : Command → List Operation
ops_of (Apply change) = operations_in change
ops_of (Ask query) = []
ops_of (AskCaret query) = []
ops_of Settle = []

-- why a record refuses a question, if it does
abbrev pub query_refusal : Record → Query → Option Refusal
query_refusal r (queries.Rows first count) = None
query_refusal r (queries.Peek first count) = None
query_refusal r (queries.Show offset bias) = show_refusal r offset
query_refusal r (queries.Back spot bias) = None
query_refusal r (queries.Clip spot bias) = None

-- why a record refuses a command, if it does
abbrev pub command_refusal : Record → Command → Option Refusal
command_refusal r (Apply change) = refusal_of r change
command_refusal r (Ask query) = query_refusal r query
command_refusal r (AskCaret query) = None
command_refusal r Settle = None

-- the verdict on a command: its ids are judged before the record is asked
abbrev pub command_verdict : Record → Command → Verdict
command_verdict r command =
    if is_over command then Refused BadNumber else refused_or command (command_refusal r command)

abbrev pub form_verdict : Record → Option Command → Verdict
form_verdict r None = Refused NotCommand
form_verdict r (Some command) = command_verdict r command

-- the verdict on a line: first its length is judged, then whether it is a command, and then the command
abbrev pub verdict : Form → Record → List ℕ → Verdict
verdict form r line =
    if nat_lt LINE_LIMIT (length line) then Refused TooLong else form_verdict r (command_of form r.text line)

-- a question is answered where every line is wrapped at the width
abbrev pub query_wants_settled : Query → Bool
query_wants_settled (queries.Rows first count) = true
query_wants_settled (queries.Peek first count) = false
query_wants_settled (queries.Show offset bias) = true
query_wants_settled (queries.Back spot bias) = true
query_wants_settled (queries.Clip spot bias) = true

-- so is a command
abbrev pub wants_settled : Command → Bool
wants_settled (Apply change) = false
wants_settled (Ask query) = query_wants_settled query
wants_settled (AskCaret query) = true
wants_settled Settle = true

-- what reading gives of the command that a line has, if it has one. It is that command, or why there is none that a
-- display can be asked. Out of memory may come at any time
abbrev pub IsReadAs : Option Command → Result Asked Unread → Type 0
IsReadAs command (Ok asked) = (command ≡ Some (meaning asked)) × (is_over (meaning asked) ≡ false)
IsReadAs command (Err unread.NoForm) = command ≡ None
IsReadAs command (Err unread.IdOver) = option_map is_over command ≡ Some true
IsReadAs command (Err unread.NoMemory) = Unit {0}

-- why a line is not read on a text: it is over the limit. Or else it is no command, or else an id of it is over the
-- greatest number. Out of memory comes only where it is text within the limit
abbrev pub IsLineRefused : Form → List ℕ → List ℕ → Fault → Type 0
IsLineRefused form text line (faults.Refused TooLong) = LINE_LIMIT < length line
IsLineRefused form text line (faults.Refused NotCommand) =
    (length line ≤ LINE_LIMIT) × (command_of form text line ≡ None)
IsLineRefused form text line (faults.Refused BadNumber) =
    (length line ≤ LINE_LIMIT) × (option_map is_over (command_of form text line) ≡ Some true)
IsLineRefused form text line (faults.Refused _) = ⊥
IsLineRefused form text line faults.NoMemory = (length line ≤ LINE_LIMIT) × IsUtf8 line
