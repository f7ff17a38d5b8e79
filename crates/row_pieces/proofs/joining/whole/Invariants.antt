use Rattle.std.proofs.Common.{◌≡◌, ◌+◌, ◌++◌, take}
use Rattle.std.specs.String.{string_bytes}
use Rattle.row_pieces.specs.Pieces.{cells_in, text_of}
use Rattle.row_pieces.proofs.Runs.{last_end}
use Rattle.row_pieces.proofs.joining.whole.Given as goal

abbrev pub invariant-loop-bit : goal.invariant-loop-bit
invariant-loop-bit l = record {
  text : string_bytes l.text ≡ l.first.text ++ text_of (take l.bit-index l.rest);
  cells : l.cells ≡ l.first.cells + cells_in (take l.bit-index l.rest);
  end : l.end ≡ last_end l.first (take l.bit-index l.rest);
}
