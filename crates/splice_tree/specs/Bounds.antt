-- How many steps a replacement of splices takes at most, as a cost of a height h that the tree can't exceed.
use Rattle.std.specs.Prelude.{ℕ, ◌+◌, ◌*◌}
use Rattle.sum_tree.specs.Bounds.{replacing, way}

-- k splices in the place of others: one way down to the splice after them, and one replacement of k + 1 items
abbrev pub splicing : ℕ → ℕ → ℕ
splicing k h = way h + replacing (k + 1) h
