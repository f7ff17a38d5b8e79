use Rattle.std.proofs.Common.{length}
use Rattle.std.specs.Str.Iter.{chars_rest}
use Rattle.cell_line.proofs.Seam.{IsSearched}
use Rattle.cell_line.proofs.characters.next_seam.Given as goal

abbrev pub invariant-characters : goal.invariant-characters
invariant-characters l = IsSearched l.text (chars_rest l.chars) l.at l.parts

abbrev pub decreases-characters : goal.decreases-characters
decreases-characters l = length (chars_rest l.chars)
