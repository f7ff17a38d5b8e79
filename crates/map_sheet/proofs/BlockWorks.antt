-- How many steps a block more or less takes.
use Rattle.std.proofs.Common.{◌≡◌, ℕ, ◌+◌, List, length, ap, ◌∙◌, arith}
use Rattle.cell_units.specs.declared.place.Side.{Side}
use Rattle.cell_units.specs.Operation.{AddBlock, RemoveBlock, block_at_row}
use Rattle.cell_units.specs.Record.{Record, block_le}
use Rattle.mark_tree.proofs.Sorting.{length-insert}
use Rattle.plain_rows.specs.Reach.{WorksAtMost, reach_of_operation}
use Rattle.block_map.specs.Bounds.{TakesOneEach}
use Rattle.block_map.specs.Maps.{BlockState}
use Rattle.blocked_rows.specs.Bounds.{adding, taking}
use Rattle.blocked_rows.specs.Laws.{AreAsMany}
use Rattle.blocked_rows.specs.Records.{kept_blocks, row_texts}
use Rattle.map_sheet.proofs.StepSums.{block-steps}

module _ (r : Record) (s : BlockState) (s_is : s ≡ kept_blocks r (row_texts r)) (as_many : AreAsMany) (old new : ℕ) where
  count : length s.above + length s.below ≡ length r.blocks
  count = ap (λ (x : BlockState). length x.above + length x.below) s_is ∙ as_many r (row_texts r)

  pub block-works : (row id : ℕ) (side : Side) (given : List (List ℕ)) → TakesOneEach adding (length s.above + length s.below + 1) old new
      → WorksAtMost (AddBlock row id side given) r old new
  block-works row id side given took h before after =
      let more = length-insert block_le (block_at_row r.text row id side given) r.blocks in
      let operation = AddBlock row id side given in
      block-steps h (length r.blocks + 1) 1974 (reach_of_operation operation r) old new (omega arith) (omega (arith, count, took h (omega (arith, count, more, after.blocks))))

  pub unblock-works : (id : ℕ) → TakesOneEach taking (length s.above + length s.below) old new → WorksAtMost (RemoveBlock id) r old new
  unblock-works id took h before after =
      block-steps h (length r.blocks) 1428 (reach_of_operation (RemoveBlock id) r) old new (omega arith) (omega (arith, count, took h (omega (arith, count, before.blocks))))
