-- The part of a text that is being cut into clusters.
use Rattle.std.specs.Prelude.{ℕ, List, [], Option, Some, None}
use Rattle.unicode_segmentation.specs.Iter.{graphemes_left}
use Rattle.unicode_segmentation.specs.declared.grapheme.Graphemes.{Graphemes}

-- the clusters that are left of a part, where one is being cut
abbrev pub clusters_in : Option Graphemes → List (List ℕ)
clusters_in None = []
clusters_in (Some part) = graphemes_left part
