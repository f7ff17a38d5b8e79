use Rattle.std.proofs.Common.{◌≡◌, drop}
use Rattle.plain_rows.specs.Spots.{is_within}
use Rattle.plain_rows.proofs.spots.row_line.is_within.Given as goal

abbrev pub invariant-loop-element : goal.invariant-loop-element
invariant-loop-element l = is_within (drop l.element-index l.elements) l.rest ≡ is_within l.elements l.byte
