use Rattle.std.proofs.Common.{◌≡◌, ◌+◌, drop}
use Rattle.plain_rows.specs.Spots.{elements_before}
use Rattle.plain_rows.proofs.spots.row_line.elements_before.Given as goal

abbrev pub invariant-loop-number : goal.invariant-loop-number
invariant-loop-number l = l.number + elements_before (drop l.number l.elements) l.rest l.bias ≡ elements_before l.elements l.byte l.bias
