use Rattle.std.proofs.Common.{◌≡◌, ℕ, ◌+◌, ◌<◌, ◌≤◌, length, map, List, arith, ap, sym, ◌∙◌, subst}
use Rattle.std.proofs.lemmas.List.{get_or_read}
use Rattle.cell_units.specs.Lawful.{source_of}
use Rattle.std.specs.List.{All}
use Rattle.plain_rows.specs.declared.plain.PlainBlock.{PlainBlock}
use Rattle.plain_rows.specs.FoldedLines.{AreInOrder}
use Rattle.plain_rows.specs.Rows.{line_of_block}
use Rattle.plain_rows.specs.Plain.{block_of, record_of}
use Rattle.plain_rows.proofs.PlainRecords.{plain-blocks_rise, plain-blocks_within}
use Rattle.plain_rows.proofs.RowsOfLines.{length-marks}
use Rattle.plain_rows.proofs.SpotSizes.{HasRowsUpto, first-fits, lines-count_of, upto-more}
use Rattle.plain_rows.proofs.spots.row_counts.first_rows.Goals as goal

pub block_lines-requires-clause-in_order : goal.block_lines-requires-clause-in_order
block_lines-requires-clause-in_order c =
    subst (λ (bs : List PlainBlock). AreInOrder (λ (b : PlainBlock). b.offset) bs) (sym c.deref.ensures.value) (plain-blocks_rise c.args.plain.now c.requires.lawful)

pub block_lines-requires-clause-within : goal.block_lines-requires-clause-within
block_lines-requires-clause-within c = λ k d lt.
    let all = subst (λ (bs : List PlainBlock). All (λ (b : PlainBlock). b.offset ≤ length c.args.plain.now.text) bs) (sym c.deref.ensures.value) (plain-blocks_within c.args.plain.now c.requires.lawful) in
    omega (arith, all k d lt, ap length c.as_str.ensures)

pub block_rows-requires-clause-lines : goal.block_rows-requires-clause-lines
block_rows-requires-clause-lines c =
    let r = record_of c.args.plain.now in
    c.deref-2.ensures.value ∙ c.in_ok-lines.ensures r c.requires.lines (sym c.as_str.ensures) ∙ ap (λ (bs : List PlainBlock). map (λ b. line_of_block r (block_of b)) bs) c.deref.ensures.value

pub block_rows-requires-2-clause-lines : goal.block_rows-requires-2-clause-lines
block_rows-requires-2-clause-lines c =
    let r = record_of c.args.plain.now in
    c.deref-3.ensures.value ∙ c.in_ok-lines.ensures r c.requires.lines (sym c.as_str.ensures) ∙ ap (λ (bs : List PlainBlock). map (λ b. line_of_block r (block_of b)) bs) c.deref.ensures.value

pub index-requires : goal.index-requires
index-requires c =
    let r = record_of c.args.plain.now in
    omega (arith, c.loop-line-test.true, c.lines-line-end.ensures (source_of r) c.requires.lines, lines-count_of r c.requires.lawful c.requires.size, c.in_ok-above.ensures.count)

pub overflow_add-row : goal.overflow_add-row
overflow_add-row c =
    let r = record_of c.args.plain.now in
    let lt : c.loop-line.line < length r.marks = omega (arith, c.loop-line-test.true, c.lines-line-end.ensures (source_of r) c.requires.lines, lines-count_of r c.requires.lawful c.requires.size) in
    omega (
      arith,
      c.loop-line.invariant.0,
      first-fits r c.requires.lawful c.requires.size c.loop-line.line lt,
      c.in_ok-above.ensures.each c.loop-line.line lt,
      get_or_read c.in_ok-above.above.items c.loop-line.line _ (omega (arith, lt, c.in_ok-above.ensures.count)) c.index.ensures 0,
    )

pub text_rows-requires-clause-within : goal.text_rows-requires-clause-within
text_rows-requires-clause-within c =
    let r = record_of c.args.plain.now in
    omega (arith, c.loop-line-test.true, c.lines-line-end.ensures (source_of r) c.requires.lines, lines-count_of r c.requires.lawful c.requires.size, length-marks c.args.plain.now.marks.items)

pub overflow_add-row-in-loop-line : goal.overflow_add-row-in-loop-line
overflow_add-row-in-loop-line c =
    let r = record_of c.args.plain.now in
    let lt : c.loop-line.line < length r.marks = omega (arith, c.loop-line-test.true, c.lines-line-end.ensures (source_of r) c.requires.lines, lines-count_of r c.requires.lawful c.requires.size) in
    omega (
      arith,
      c.loop-line.invariant.0,
      first-fits r c.requires.lawful c.requires.size c.loop-line.line lt,
      c.in_ok-above.ensures.each c.loop-line.line lt,
      get_or_read c.in_ok-above.above.items c.loop-line.line _ (omega (arith, lt, c.in_ok-above.ensures.count)) c.index.ensures 0,
      c.in_ok-row.ensures,
    )

pub index-requires-in-loop-line : goal.index-requires-in-loop-line
index-requires-in-loop-line c =
    let r = record_of c.args.plain.now in
    omega (arith, c.loop-line-test.true, c.lines-line-end.ensures (source_of r) c.requires.lines, lines-count_of r c.requires.lawful c.requires.size, c.in_ok-below.ensures.count)

pub overflow_add-row-in-loop-line-2 : goal.overflow_add-row-in-loop-line-2
overflow_add-row-in-loop-line-2 c =
    let r = record_of c.args.plain.now in
    let lt : c.loop-line.line < length r.marks = omega (arith, c.loop-line-test.true, c.lines-line-end.ensures (source_of r) c.requires.lines, lines-count_of r c.requires.lawful c.requires.size) in
    omega (
      arith,
      c.loop-line.invariant.0,
      first-fits r c.requires.lawful c.requires.size c.loop-line.line lt,
      c.in_ok-above.ensures.each c.loop-line.line lt,
      get_or_read c.in_ok-above.above.items c.loop-line.line _ (omega (arith, lt, c.in_ok-above.ensures.count)) c.index.ensures 0,
      c.in_ok-row.ensures,
      c.in_ok-below.ensures.each c.loop-line.line lt,
      get_or_read c.in_ok-below.below.items c.loop-line.line _ (omega (arith, lt, c.in_ok-below.ensures.count)) c.index-in-loop-line.ensures 0,
    )

pub loop-line-preserved : goal.loop-line-preserved
loop-line-preserved c =
    let r = record_of c.args.plain.now in
    let lt : c.loop-line.line < length r.marks = omega (arith, c.loop-line-test.true, c.lines-line-end.ensures (source_of r) c.requires.lines, lines-count_of r c.requires.lawful c.requires.size) in
    let line = c.loop-line.line in
    let above = get_or_read c.in_ok-above.above.items line _ (omega (arith, lt, c.in_ok-above.ensures.count)) c.index.ensures 0 ∙ c.in_ok-above.ensures.each line lt in
    let below = get_or_read c.in_ok-below.below.items line _ (omega (arith, lt, c.in_ok-below.ensures.count)) c.index-in-loop-line.ensures 0 ∙ c.in_ok-below.ensures.each line lt in
    subst (λ (rows : List ℕ). HasRowsUpto r (line + 1) rows (c.loop-line.row + c.index.result.now + c.in_ok-row.field-0 + c.index-in-loop-line.result.now)) (sym c.in_ok-push.ensures.items)
    (upto-more r c.requires.lawful c.requires.size line c.loop-line.rows.items c.loop-line.row (c.loop-line.row + c.index.result.now) (c.loop-line.row + c.index.result.now + c.in_ok-row.field-0 + c.index-in-loop-line.result.now) lt c.loop-line.invariant
    (omega (arith, above))
    (omega (arith, below, c.in_ok-row.ensures)))

pub returns : goal.returns
returns c =
    let r = record_of c.args.plain.now in
    let all : c.loop-line.line ≡ length r.marks = omega (arith, c.loop-line-test.false, c.loop-line.auto.line-end, c.lines-line-end.ensures (source_of r) c.requires.lines, lines-count_of r c.requires.lawful c.requires.size) in
    record {
      each = λ k lt. c.loop-line.invariant.2 k (omega (arith, lt, all));
      count = c.loop-line.invariant.1 ∙ all;
    }
