use Rattle.edit_patch.proofs.Correspondence.{corresponds, one_correspondence}
use Rattle.edit_patch.proofs.laws.correspondence_in_order.Goals as goal

pub returns : goal.returns
returns c = record { corresponds = corresponds; one = one_correspondence }
