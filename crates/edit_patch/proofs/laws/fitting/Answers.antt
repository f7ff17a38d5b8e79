use Rattle.edit_patch.proofs.Fitting.{fits-none, fits-inverted, fits-composed, fits-u32}
use Rattle.edit_patch.proofs.laws.fitting.Goals as goal

pub returns : goal.returns
returns g c = record { none = fits-none; inverse = fits-inverted; composed = fits-composed; small = fits-u32 }
