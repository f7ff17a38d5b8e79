use Rattle.edit_patch.proofs.Composition.{composable, one_composition}
use Rattle.edit_patch.proofs.laws.one_composition.Goals as goal

pub returns : goal.returns
returns c = record { exists = composable; one = one_composition }
