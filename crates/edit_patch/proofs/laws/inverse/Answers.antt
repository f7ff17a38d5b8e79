use Rattle.edit_patch.proofs.Inverse.{inverted-patch, back, forth, twice}
use Rattle.edit_patch.proofs.laws.inverse.Goals as goal

pub returns : goal.returns
returns c = record { normal = inverted-patch; back = λ a i j h. (forth a j i h, back a j i h); twice = twice }
