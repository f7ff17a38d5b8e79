-- What a call returns that is accepted or refused.
use Rattle.std.specs.Prelude.{Option, Some, None, Result, Ok, Err}
use Rattle.cell_units.specs.declared.fault.Fault.{Fault}
use Rattle.cell_units.specs.declared.fault.Fault.TheVariants as faults
use Rattle.cell_units.specs.declared.fault.Refusal.{Refusal}

abbrev pub answer_of : Option Refusal → Result (Unit {0}) Fault
answer_of None = Ok tt
answer_of (Some refusal) = Err (faults.Refused refusal)
