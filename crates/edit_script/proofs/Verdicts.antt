-- The verdict on a line, by what reading it gave.
use Rattle.std.proofs.Common.{◌≡◌, ◌≤◌, ◌<◌, ℕ, List, length, refl, Bool, true, false, Option, Some, None, option_map, if◌then◌else◌, ap, ◌∙◌}
use Rattle.std.proofs.lemmas.Bool.{lt-ltb, le-ltb}
use Rattle.cell_units.specs.declared.fault.Refusal.{Refusal}
use Rattle.cell_units.specs.declared.fault.Refusal.TheVariants.{NotCommand, BadRange, IdInUse, UnknownId, TooLong, BadNumber, BadText, NothingThere}
use Rattle.cell_units.specs.declared.fault.Fault.TheVariants as faults
use Rattle.cell_units.specs.Record.{Record}
use Rattle.edit_script.specs.declared.asked.Form.{Form}
use Rattle.display_sheet.specs.declared.change.Change.{Change}
use Rattle.display_sheet.specs.Changes.{change_refusal, ops_of as display_ops_of}
use Rattle.edit_script.specs.declared.asked.Asked.TheVariants as asks
use Rattle.edit_script.specs.declared.asked.CaretQuery.{CaretQuery}
use Rattle.edit_script.specs.Commands.{Command, AskCaret, command_of, meaning}
use Rattle.edit_script.specs.declared.blank.TheConstants.{LINE_LIMIT}
use Rattle.edit_script.specs.Verdict.{Verdict, Refused, Accepted, is_over, ops_of, refused_or, command_refusal, form_verdict, verdict, IsLineRefused}

by_length : Form → Record → List ℕ → Bool → Verdict
by_length form r line is_over = if is_over then Refused TooLong else form_verdict r (command_of form r.text line)

over : (form : Form) (r : Record) (line : List ℕ) → LINE_LIMIT < length line → verdict form r line ≡ Refused TooLong
unfolding by_length
over form r line h = ap (by_length form r line) (lt-ltb LINE_LIMIT (length line) h)

within : (form : Form) (r : Record) (line : List ℕ) → length line ≤ LINE_LIMIT → verdict form r line ≡ form_verdict r (command_of form r.text line)
unfolding by_length
within form r line h = ap (by_length form r line) (le-ltb LINE_LIMIT (length line) h)

-- a command with an id over the greatest number
id_over : (r : Record) (command : Option Command) → option_map is_over command ≡ Some true → form_verdict r command ≡ Refused BadNumber
id_over r None e = cc
id_over r (Some command) e =
    let over : is_over command ≡ true = cc in
    ap (λ b. if b then Refused BadNumber else refused_or command (command_refusal r command)) over

-- a line that is refused when it is read has that verdict on every record of the text
pub verdict-unread : (form : Form) (r : Record) (line : List ℕ) (refusal : Refusal) → IsLineRefused form r.text line (faults.Refused refusal)
    → verdict form r line ≡ Refused refusal
verdict-unread form r line NotCommand h = within form r line h.0 ∙ ap (form_verdict r) h.1
verdict-unread form r line TooLong h = over form r line h
verdict-unread form r line BadNumber h = within form r line h.0 ∙ id_over r (command_of form r.text line) h.1
verdict-unread form r line BadRange h = absurd h
verdict-unread form r line IdInUse h = absurd h
verdict-unread form r line UnknownId h = absurd h
verdict-unread form r line BadText h = absurd h
verdict-unread form r line NothingThere h = absurd h

-- a line that is read has the verdict on its command
pub verdict-read : (form : Form) (r : Record) (line : List ℕ) (command : Command) → length line ≤ LINE_LIMIT
    → command_of form r.text line ≡ Some command → is_over command ≡ false → verdict form r line ≡ refused_or command (command_refusal r command)
verdict-read form r line command h read fits =
    within form r line h ∙ (ap (form_verdict r) read
    ∙ ap (λ b. if b then Refused BadNumber else refused_or command (command_refusal r command)) fits)

-- ---- what a change of the program means

-- it is refused as the display refuses it
pub change-refusal : (r : Record) (change : Change) → command_refusal r (meaning (asks.Change change)) ≡ change_refusal r change
change-refusal r change = refl

-- its operations are those that the display does
pub change-ops : (change : Change) → ops_of (meaning (asks.Change change)) ≡ display_ops_of change
change-ops change = refl

-- ---- questions about a caret

-- none is refused
pub verdict-caret : (form : Form) (r : Record) (line : List ℕ) (query : CaretQuery) → length line ≤ LINE_LIMIT
    → command_of form r.text line ≡ Some (AskCaret query) → verdict form r line ≡ Accepted (AskCaret query)
verdict-caret form r line query h read = verdict-read form r line (AskCaret query) h read refl
