use Rattle.std.proofs.Common.{◌≡◌, take}
use Rattle.display_sheet.specs.RowCounts.{rows_of_blocks}
use Rattle.display_sheet.proofs.counting.rows_of_blocks.Given as goal

abbrev pub invariant-loop-block : goal.invariant-loop-block
invariant-loop-block l = l.rows ≡ rows_of_blocks (take l.block-index l.blocks)
