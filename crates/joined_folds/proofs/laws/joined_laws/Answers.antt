use Rattle.joined_folds.proofs.Fewer.{few-joined}
use Rattle.joined_folds.proofs.JoinedLists.{each-joined, each-listed, each-within, one-list, same-tests}
use Rattle.joined_folds.proofs.laws.joined_laws.Goals as goal

pub returns : goal.returns
returns c = record { joined = each-joined; listed = each-listed; one = one-list; within = each-within; tests = same-tests; few = few-joined }
