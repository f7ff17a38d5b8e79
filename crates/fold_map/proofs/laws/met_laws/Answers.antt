use Rattle.fold_map.proofs.MetLines.{folded-meets, opened-meets, replaced-meets}
use Rattle.fold_map.proofs.laws.met_laws.Goals as goal

pub returns-clause-folded : goal.returns-clause-folded
returns-clause-folded c = folded-meets

pub returns-clause-opened : goal.returns-clause-opened
returns-clause-opened c = opened-meets

pub returns-clause-replaced : goal.returns-clause-replaced
returns-clause-replaced c = replaced-meets
