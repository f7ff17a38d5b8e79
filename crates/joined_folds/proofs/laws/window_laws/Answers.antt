use Rattle.joined_folds.proofs.Alike.{added-alike, moved-alike, removed-alike}
use Rattle.joined_folds.proofs.Windows.{others-stay}
use Rattle.joined_folds.proofs.laws.window_laws.Goals as goal

pub returns : goal.returns
returns c = record { others_stay = others-stay; added = added-alike; removed = removed-alike; moved = moved-alike }
