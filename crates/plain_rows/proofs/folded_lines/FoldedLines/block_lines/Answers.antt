use Rattle.std.proofs.Common.{◌≡◌, ◌++◌, ◌∷◌, [], ◌+◌, ◌<◌, ◌≤◌, ℕ, length, map, take, get_or, ap, sym, ◌∙◌, arith}
use Rattle.std.proofs.lemmas.List.{get_or_default, map-append, take_more}
use Rattle.cell_units.specs.Lawful.{source_of}
use Rattle.cell_units.specs.Text.{row_end, row_start}
use Rattle.plain_rows.specs.declared.plain.PlainBlock.{PlainBlock}
use Rattle.plain_rows.specs.Plain.{block_of}
use Rattle.plain_rows.specs.Rows.{line_of_block}
use Rattle.plain_rows.specs.inside.BlockRows.{line_of_row}
use Rattle.plain_rows.proofs.RisingLines.{block-row, row_end-within, row_start-le}
use Rattle.plain_rows.proofs.folded_lines.FoldedLines.block_lines.Goals as goal

pub loop-block-preserved : goal.loop-block-preserved
loop-block-preserved c =
    let blocks = c.args.blocks.now in
    let n : ℕ = c.loop-block.block-index in
    let lt : n < length blocks = c.loop-block-test.true in
    let b = c.block-item.result in
    let item = c.block-item.is in
    let text = c.args.text.now in
    let bytes = c.as_bytes-bytes.ensures.value in
    let start : c.row_from-row.result.start ≡ row_start text b.offset = c.row_from-row.ensures.start ∙ ap (λ t. row_start t b.offset) bytes in
    let end : c.row_from-row.result.end ≡ row_end text b.offset = c.row_from-row.ensures.end ∙ ap (λ t. row_end t b.offset) bytes in
    let within : b.offset ≤ length text = omega (arith, c.requires.within n b lt, ap (λ (x : PlainBlock). x.offset) item) in
    record {
      row = c.row_from-row.ensures.row;
      behind = λ k e le also. omega (arith, start, row_start-le text b.offset, later k e le also);
      lines = λ r are same.
          let f = λ (b : PlainBlock). line_of_block r (block_of b) in
          let line = c.block_line.ensures (source_of r) are (omega (arith, start, row_start-le text b.offset, within, ap length same)) (omega (arith, end, row_end-within text b.offset within, ap length same)) in
          c.in_ok-push.ensures.items
          ∙ (λ i. c.loop-block.invariant.lines r are same i ++ (line ∙ (λ k. line_of_row (source_of r) b.side (start k) (end k)) ∙ (λ k. line_of_row (source_of r) b.side (row_start (sym same k) b.offset) (row_end (sym same k) b.offset)) ∙ sym (block-row r (block_of b))) i ∷ [])
          ∙ ap (λ (x : PlainBlock). map f (take n blocks) ++ f x ∷ []) item
          ∙ sym (ap (map f) (take_more blocks n b lt) ∙ map-append f (take n blocks) (get_or blocks n b ∷ []));
    } where
      later : (k : ℕ) (e : PlainBlock) → c.loop-block.block-index + 1 ≤ k → k < length c.args.blocks.now → c.block-item.result.offset ≤ (get_or c.args.blocks.now k e).offset
      later k e le also =
          omega (
            arith,
            c.requires.in_order c.loop-block.block-index k e (omega (arith, le)) also,
            ap (λ (b : PlainBlock). b.offset) (get_or_default c.args.blocks.now c.loop-block.block-index e c.block-item.result (omega (arith, le, also))),
            ap (λ (b : PlainBlock). b.offset) c.block-item.is,
          )
