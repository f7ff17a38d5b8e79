use Rattle.std.proofs.Common.{arith}
use Rattle.row_pieces.proofs.Runs.{cells-slice}
use Rattle.row_pieces.proofs.line_rows.joined_row.Goals as goal

pub joined-requires : goal.joined-requires
joined-requires c = omega (arith, cells-slice c.row_begin.result c.row_end-end.result c.args.bits.now, c.requires.cells)
