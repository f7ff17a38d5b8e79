-- A change that is made beside a display, after a line was noted.
use Rattle.std.proofs.Common.{◌≡◌, ℕ, [], ◌∷◌, Option, ap}
use Rattle.cell_units.specs.declared.fault.Refusal.{Refusal}
use Rattle.cell_units.specs.declared.fault.Fault.{Fault}
use Rattle.cell_units.specs.declared.fault.Fault.TheVariants as faults
use Rattle.display_sheet.specs.Faults.{IsRefusedAs}
use Rattle.display_map.specs.Events.{Line}
use Rattle.display_map.specs.Prepared.{IsOwed}
use Rattle.display_map.specs.Replay.{History, State, appended, present_of}
use Rattle.display_map.proofs.Replays.{state_of-one_more}

-- a line that is noted leaves the record
pub present-noted : (h : History) (number : ℕ) → present_of (appended h (Line number ∷ [])) ≡ present_of h
present-noted h number = ap (λ (s : State). s.present) (state_of-one_more h (Line number))

pub owed-as : (owed : Option Refusal) (fault : Fault) → IsRefusedAs owed fault → IsOwed owed fault
owed-as owed (faults.Refused refusal) is = is
owed-as owed faults.NoMemory is = tt
