use Rattle.joined_folds.proofs.Fewer.{few-within}
use Rattle.joined_folds.proofs.Meeting.{meeting-met}
use Rattle.joined_folds.proofs.laws.sweep_laws.Goals as goal

pub returns : goal.returns
returns c = record { met = meeting-met; few = λ folds w js some is a. few-within folds w is some js a }
