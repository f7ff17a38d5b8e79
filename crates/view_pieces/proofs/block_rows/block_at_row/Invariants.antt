-- The row is that of this number among those of the blocks that are left, none of which comes before the line.
use Rattle.std.proofs.Common.{◌≡◌, ◌≤◌, false}
use Rattle.std.specs.Prelude.{slice_get}
use Rattle.row_pieces.specs.Pieces.{block_pieces_at}
use Rattle.map_sheet.specs.Listed.{side_blocks}
use Rattle.view_pieces.specs.inside.Blocks.{comes_before}
use Rattle.view_pieces.proofs.SideBlocks.{rows_from}
use Rattle.view_pieces.proofs.block_rows.block_at_row.Given as goal

abbrev pub invariant-loop-number : goal.invariant-loop-number
invariant-loop-number l = record {
  row : slice_get (block_pieces_at l.sheet l.side l.line) l.at ≡ slice_get (rows_from l.sheet l.side l.line l.number) l.left;
  off : comes_before l.sheet l.line (slice_get (side_blocks l.sheet l.side) l.number) ≡ false;
  counted : l.fn.steps ≤ l.steps;
}
