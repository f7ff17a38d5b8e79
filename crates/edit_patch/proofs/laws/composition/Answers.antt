use Rattle.edit_patch.proofs.Composition.{associative, neutral_later, neutral_earlier, reversed}
use Rattle.edit_patch.proofs.laws.composition.Goals as goal

pub returns : goal.returns
returns c = record { associative = associative; none_later = neutral_later; none_earlier = neutral_earlier; reversed = reversed }
