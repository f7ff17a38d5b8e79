-- What reading and asking say of the verdict on a line.
use Rattle.std.proofs.Common.{◌≡◌, List, ℕ, refl}
use Rattle.cell_units.specs.declared.fault.Refusal.{Refusal}
use Rattle.cell_units.specs.declared.fault.Fault.{Fault}
use Rattle.cell_units.specs.declared.fault.Fault.TheVariants as faults
use Rattle.display_map.specs.Replay.{History, present_of}
use Rattle.edit_script.specs.declared.asked.Form.TheVariants.{Second}
use Rattle.edit_script.specs.Verdict.{IsLineRefused, Refused}
use Rattle.display_session.specs.Lines.{HasFailedAt, verdict_on}
use Rattle.display_session.specs.Troubles.{trouble_of}
use Rattle.display_session.proofs.Wrapping.{wrapped-none}

-- a line that isn't read
pub unread-failed : (d : History) (line : List ℕ) (fault : Fault)
    → ((refusal : Refusal) → IsLineRefused Second (present_of d).text line (faults.Refused refusal) → verdict_on d line ≡ Refused refusal)
    → IsLineRefused Second (present_of d).text line fault → HasFailedAt (verdict_on d line) d d (trouble_of fault)
unread-failed d line (faults.Refused refusal) law it = (law refusal it, refl)
unread-failed d line faults.NoMemory law it = wrapped-none d
