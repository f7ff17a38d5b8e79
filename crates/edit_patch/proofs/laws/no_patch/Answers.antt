use Rattle.edit_patch.proofs.Worked.{touching, empty}
use Rattle.edit_patch.proofs.laws.no_patch.Goals as goal

pub returns : goal.returns
returns c = record { touching = touching; empty = empty }
