-- What a run is given to handle, one after the other.
use Rattle.std.specs.Prelude.{ℕ, not, nat_lt, if◌then◌else◌, List, length, map, filter, Option, Some, None}
use Rattle.std.specs.List.{list_all}
use Rattle.std.specs.Str.{is_utf8}
use Rattle.cell_units.specs.declared.fault.Refusal.TheVariants.{NotCommand}
use Rattle.cell_units.specs.Text.{is_feed}
use Rattle.cell_units.specs.Record.{Record}
use Rattle.cell_units.specs.Cutting.{cut_lines}
use Rattle.edit_script.specs.declared.asked.Form.{Form}
use Rattle.display_sheet.specs.declared.change.Splice.{Splice}
use Rattle.display_sheet.specs.Changes.{Edit, entries_in}
use Rattle.edit_script.specs.Commands.{Command, Apply, Ask, AskCaret, Settle, command_of}
use Rattle.edit_script.specs.Script.{form_of, asking_from}
use Rattle.edit_script.specs.declared.blank.TheConstants.{LINE_LIMIT}
use Rattle.edit_script.specs.Verdict.{Refused, Verdict, command_verdict, verdict}

-- an entry: the bytes of a line, and the form in which they are read; or a batch of replacements that comes from elsewhere
pub data Entry : Type 0 where
  Bytes : Form → List ℕ → Entry
  Edited : List Splice → Entry

-- what becomes of an entry on a record
abbrev pub judged : Record → Entry → Verdict
judged r (Bytes form line) = verdict form r line
judged r (Edited splices) =
    if list_all (λ s. is_utf8 s.text) splices then command_verdict r (Apply (Edit splices)) else Refused NotCommand

-- the lines of a script, without their line feeds. The last one may end without one, and nothing after the last is a line
abbrev pub script_lines : List ℕ → List (List ℕ)
script_lines script = map (filter (λ b. not (is_feed b))) (cut_lines is_feed script)

-- the entries of a script: its lines that are neither blank nor its header, counted from 1 with those, in the form that the header
-- gives
unfoldable pub numbered_lines : List ℕ → List (ℕ × Entry)
numbered_lines script = map (λ l. (l.0, Bytes (form_of (script_lines script)) l.1)) (asking_from 1 (script_lines script))

-- how many operations a command asks for: an entry of an edit counts as one
abbrev pub asked_by_command : Option Command → ℕ
asked_by_command None = 0
asked_by_command (Some (Apply change)) = entries_in change
asked_by_command (Some (Ask query)) = 0
asked_by_command (Some (AskCaret query)) = 0
asked_by_command (Some Settle) = 0

-- how many operations an entry asks for, accepted or not. A line over the limit asks for none
abbrev pub asked_by : Record → Entry → ℕ
asked_by r (Bytes form line) =
    if nat_lt LINE_LIMIT (length line) then 0 else asked_by_command (command_of form r.text line)
asked_by r (Edited splices) = length splices
