use Rattle.std.proofs.Common.{◌≡◌, ◌++◌, drop, true}
use Rattle.unicode_segmentation.specs.Grapheme.{graphemes}
use Rattle.cell_line.specs.Elements.{clusters}
use Rattle.cell_line.proofs.walk.next_text.Given as goal

abbrev pub invariant-loop-at : goal.invariant-loop-at
invariant-loop-at l = graphemes true l.rest ++ clusters (drop l.begun l.pieces) ≡ clusters (drop l.at l.pieces)
