use Rattle.std.proofs.Common.{refl}
use Rattle.plain_rows.specs.Plain.{block_of}
use Rattle.row_pieces.proofs.rows.block_piece.Goals as goal

pub returns : goal.returns
returns c = c.block_line_piece.ensures (block_of c.args.block.now) refl refl
