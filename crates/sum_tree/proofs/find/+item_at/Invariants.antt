use Rattle.sum_tree.proofs.find.+item_at.Given as goal

abbrev pub decreases-item_at : goal.decreases-item_at
decreases-item_at g l = l.height
