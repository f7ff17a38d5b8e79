use Rattle.std.proofs.Common.{◌≡◌, ◌≤◌, ◌++◌, drop, length, map}
use Rattle.cell_line.specs.Elements.{clusters}
use Rattle.row_pieces.specs.Pieces.{bits}
use Rattle.row_pieces.proofs.bits.bits.Given as goal

abbrev pub invariant-loop-piece : goal.invariant-loop-piece
invariant-loop-piece l = record {
  bits : l.bits.items ++ bits (drop l.piece-index l.pieces) (drop l.next l.elements) ≡ bits l.pieces l.elements;
  texts : map (λ e. e.text) (drop l.next l.elements) ≡ clusters (drop l.piece-index l.pieces);
  within : l.next ≤ length l.elements;
}
