use Rattle.edit_patch.proofs.Replacing.{replacement-patch, fits-replacement}
use Rattle.edit_patch.proofs.laws.replacing.Goals as goal

pub returns : goal.returns
returns g c = record { normal = replacement-patch; fits = fits-replacement }
