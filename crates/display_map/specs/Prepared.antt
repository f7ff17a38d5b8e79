-- What a contract sees of a change that is made beside a display.
use Rattle.std.specs.Prelude.{◌≡◌, Option, Some}
use Rattle.cell_units.specs.declared.fault.Refusal.{Refusal}
use Rattle.cell_units.specs.declared.fault.Fault.{Fault}
use Rattle.cell_units.specs.declared.fault.Fault.TheVariants as faults
use Rattle.display_map.specs.Replay.{History}

-- the display's history when it was made, and the history that it makes of that
pub record PreparedParts : Type 0 where
  pub before : History
  pub after : History

-- a refusal is the one that is owed. Out of memory may come in its place, since the display is copied first
abbrev pub IsOwed : Option Refusal → Fault → Type 0
IsOwed owed (faults.Refused refusal) = owed ≡ Some refusal
IsOwed owed faults.NoMemory = Unit {0}
