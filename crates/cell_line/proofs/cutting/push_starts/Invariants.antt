use Rattle.std.proofs.Common.{◌≡◌, ◌++◌, length}
use Rattle.cell_line.specs.Wrapping.{row_starts}
use Rattle.cell_line.specs.inside.Filling.{starts_left}
use Rattle.cell_line.specs.inside.Marks.{left_of}
use Rattle.cell_line.proofs.RowEnds.{IsPassing}
use Rattle.cell_line.proofs.cutting.push_starts.Given as goal

abbrev pub invariant-line : goal.invariant-line
invariant-line l =
    IsPassing (left_of l.fn.walk) l.room l.at l.row l.parts (left_of l.walk)
    × (l.starts.items ++ starts_left (left_of l.fn.walk) l.room l.row.start l.at
    ≡ l.fn.starts.items ++ row_starts (left_of l.fn.walk) l.room (length (left_of l.fn.walk)) l.from)

abbrev pub decreases-line : goal.decreases-line
decreases-line l = length (left_of l.walk)
