use Rattle.sum_tree.proofs.splits.+split_at.Given as goal

abbrev pub decreases-split_at : goal.decreases-split_at
decreases-split_at g l = l.height
