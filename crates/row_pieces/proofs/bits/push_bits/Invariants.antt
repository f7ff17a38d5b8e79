use Rattle.std.proofs.Common.{◌≡◌, ◌-◌, ◌≤◌, ◌++◌, take}
use Rattle.row_pieces.specs.Pieces.{bits_in, count_in}
use Rattle.row_pieces.proofs.Elements.{bytes_of}
use Rattle.row_pieces.proofs.bits.push_bits.Given as goal

abbrev pub invariant-elements : goal.invariant-elements
invariant-elements l = record {
  within : l.count ≤ count_in l.piece;
  before : l.before ≡ bytes_of (take l.count l.elements);
  bits : l.bits.items ≡ l.initial.bits.items ++ bits_in l.piece 0 (take l.count l.elements);
}

abbrev pub decreases-elements : goal.decreases-elements
decreases-elements l = l.size - l.before
