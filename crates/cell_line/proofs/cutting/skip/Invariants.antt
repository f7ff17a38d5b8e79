use Rattle.std.proofs.Common.{◌≡◌, drop}
use Rattle.cell_line.specs.inside.Marks.{left_of}
use Rattle.cell_line.proofs.cutting.skip.Given as goal

abbrev pub invariant-elements : goal.invariant-elements
invariant-elements l = drop l.left (left_of l.walk) ≡ drop l.count (left_of l.initial.walk)

abbrev pub decreases-elements : goal.decreases-elements
decreases-elements l = l.left
