use Rattle.std.proofs.Common.{◌+◌}
use Rattle.sum_tree.proofs.joins.+meld.Given as goal

abbrev pub decreases-meld : goal.decreases-meld
decreases-meld g l = l.left_height + l.right_height
