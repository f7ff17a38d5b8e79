use Rattle.std.proofs.Common.{◌≡◌, take}
use Rattle.row_pieces.specs.Listed.{lists_of}
use Rattle.row_pieces.specs.Pieces.{head_and_later, parts}
use Rattle.row_pieces.proofs.line_rows.rows_of_bits.Given as goal

abbrev pub invariant-loop-row : goal.invariant-loop-row
invariant-loop-row l = lists_of l.rows.items ≡ take l.row (head_and_later l.indent (parts l.bits 0 l.cuts))
