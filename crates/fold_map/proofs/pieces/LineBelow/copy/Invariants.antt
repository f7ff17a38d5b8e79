use Rattle.std.proofs.Common.{◌≡◌, ◌+◌, ◌++◌, length, take}
use Rattle.fold_map.specs.LinePieces.{bytes_in}
use Rattle.fold_map.proofs.LinesCopied.{copied}
use Rattle.fold_map.proofs.pieces.LineBelow.copy.Given as goal

abbrev pub invariant-loop-piece : goal.invariant-loop-piece
invariant-loop-piece l = record {
  begin : l.begin ≡ l.self.start + length (bytes_in (take l.piece-index l.self.pieces.items));
  done : l.pieces.items ≡ l.fn.pieces.items ++ copied l.from l.to l.self.start (take l.piece-index l.self.pieces.items);
}
