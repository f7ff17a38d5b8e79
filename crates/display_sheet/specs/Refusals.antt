-- What comes of an operation on a record: it is refused, or done.
use Rattle.std.specs.Prelude.{◌≡◌, None, Result, Ok, Err}
use Rattle.cell_units.specs.declared.fault.Fault.{Fault}
use Rattle.cell_units.specs.Record.{Record}
use Rattle.cell_units.specs.Operation.{Operation}
use Rattle.cell_units.specs.Lawful.{IsAllowed}
use Rattle.display_sheet.specs.declared.sheet.Spliced.{Spliced}
use Rattle.display_sheet.specs.Changes.{operation_refusal}
use Rattle.display_sheet.specs.Faults.{IsRefusedAs}
use Rattle.display_sheet.specs.Sheets.{IsOperated}

-- it is done where it isn't refused
abbrev pub IsDone : Operation → Record → Result Spliced Fault → Type 0
IsDone operation r (Ok s) =
    (operation_refusal r operation ≡ None)
    × IsAllowed operation r
    × IsOperated operation r s.sheet s.splice
IsDone operation r (Err fault) = IsRefusedAs (operation_refusal r operation) fault
