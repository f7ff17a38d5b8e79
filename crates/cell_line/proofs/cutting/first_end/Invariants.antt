use Rattle.std.proofs.Common.{◌≡◌, length}
use Rattle.cell_line.specs.inside.Marks.{left_of}
use Rattle.cell_line.proofs.RowEnds.{IsPassing}
use Rattle.cell_line.proofs.cutting.first_end.Given as goal

abbrev pub invariant-line : goal.invariant-line
invariant-line l = IsPassing (left_of l.fn.walk) l.room l.at l.row l.parts (left_of l.walk) × (l.row.start ≡ 0)

abbrev pub decreases-line : goal.decreases-line
decreases-line l = length (left_of l.walk)
