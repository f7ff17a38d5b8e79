-- When a change is refused, and where memory may be wanting.
use Rattle.std.specs.Prelude.{◌≡◌, ◌⊎◌, Option, Some, None}
use Rattle.cell_units.specs.declared.fault.Refusal.{Refusal}
use Rattle.cell_units.specs.declared.fault.Refusal.TheVariants.{TooLong}
use Rattle.cell_units.specs.declared.fault.Fault.{Fault}
use Rattle.cell_units.specs.declared.fault.Fault.TheVariants as faults

-- a refusal is the one that is owed. Out of memory comes only where none is owed, or where a text had to be made before
-- its length was judged
abbrev pub IsRefusedAs : Option Refusal → Fault → Type 0
IsRefusedAs owed (faults.Refused refusal) = owed ≡ Some refusal
IsRefusedAs owed faults.NoMemory = (owed ≡ None) ⊎ (owed ≡ Some TooLong)
