use Rattle.edit_patch.proofs.Unique.{unique}
use Rattle.edit_patch.proofs.laws.one_patch_each.Goals as goal

pub returns : goal.returns
returns c = unique
