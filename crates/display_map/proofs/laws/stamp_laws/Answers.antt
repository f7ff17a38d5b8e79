use Rattle.display_map.proofs.Outstanding.{same-fronts}
use Rattle.display_map.proofs.laws.stamp_laws.Goals as goal

pub returns : goal.returns
returns c = same-fronts
