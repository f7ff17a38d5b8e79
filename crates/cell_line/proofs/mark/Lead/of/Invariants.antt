use Rattle.std.proofs.Common.{length}
use Rattle.cell_line.specs.inside.Marks.{left_of}
use Rattle.cell_line.proofs.Walks.{IsLeading}
use Rattle.cell_line.proofs.mark.Lead.of.Given as goal

abbrev pub invariant-blanks : goal.invariant-blanks
invariant-blanks l = IsLeading (left_of l.fn.walk) (left_of l.walk) l.count l.cells

abbrev pub decreases-blanks : goal.decreases-blanks
decreases-blanks l = length (left_of l.walk)
