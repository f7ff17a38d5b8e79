use Rattle.std.proofs.Common.{◌≡◌, ◌<◌, ◌≤◌, ℕ, List, length, map, ap, sym, subst, ◌∙◌, arith}
use Rattle.std.specs.List.{All}
use Rattle.std.proofs.lemmas.List.{get_or_read}
use Rattle.cell_units.specs.Layers.{Source, shown_lines}
use Rattle.plain_rows.specs.declared.plain.PlainBlock.{PlainBlock}
use Rattle.plain_rows.specs.FoldedLines.{AreInOrder, AreLinesOf, seen}
use Rattle.plain_rows.specs.Plain.{block_of, record_of}
use Rattle.plain_rows.specs.Rows.{line_of_block, rows_by_line, rows_of}
use Rattle.plain_rows.proofs.PlainRecords.{plain-blocks_rise, plain-blocks_within}
use Rattle.plain_rows.proofs.RowsInOrder.{rows_upto}
use Rattle.plain_rows.proofs.RowsOfLines.{length-marks, lines-marked}
use Rattle.plain_rows.proofs.SpotSizes.{rows-few}
use Rattle.row_pieces.proofs.LookCounts.{all-rows, length-pairs, rows-to}
use Rattle.row_pieces.proofs.changed.rows_to.Goals as goal

pub overflow_cast-result : goal.overflow_cast-result
overflow_cast-result c =
    let r = record_of c.args.plain.now in
    omega (
      arith,
      c.len.ensures,
      ap length c.in_ok-build.ensures,
      length-pairs (rows_of r),
      all-rows r c.requires.lawful,
      rows-few r c.requires.lawful c.requires.size (length r.marks) (omega arith),
    )

pub returns-then-line-lines : goal.returns-then-line-lines
returns-then-line-lines c =
    let p = c.args.plain.now in
    let r = record_of p in
    let s = seen c.source_of.result in
    let lines : c.lines.result ≡ length r.marks =
    c.lines.ensures s c.in_ok-folded.ensures ∙ ap (λ (x : Source). length (shown_lines x)) c.source_of.ensures ∙ lines-marked r c.requires.lawful.marked in
    let last : length r.marks ≡ c.args.line = omega (arith, lines, c.requires.within, length-marks p.marks.items, c.if-line-lines.true) in
    omega (
      arith,
      c.len.ensures,
      ap length c.in_ok-build.ensures,
      length-pairs (rows_of r),
      all-rows r c.requires.lawful,
      rows-to r c.args.line,
      ap (λ (n : ℕ). rows_upto n (rows_by_line r)) last,
    )

pub block_lines-requires-clause-in_order : goal.block_lines-requires-clause-in_order
block_lines-requires-clause-in_order c =
    subst (AreInOrder (λ (b : PlainBlock). b.offset)) (sym c.as_slice.ensures.value) (plain-blocks_rise c.args.plain.now c.requires.lawful)

pub block_lines-requires-clause-within : goal.block_lines-requires-clause-within
block_lines-requires-clause-within c =
    subst (λ (t : List ℕ). All (λ (b : PlainBlock). b.offset ≤ length t) c.as_slice.result.now) (sym c.as_str.ensures)
    (subst (All (λ (b : PlainBlock). b.offset ≤ length c.args.plain.now.text)) (sym c.as_slice.ensures.value) (plain-blocks_within c.args.plain.now c.requires.lawful))

pub index-requires : goal.index-requires
index-requires c =
    let p = c.args.plain.now in
    let r = record_of p in
    let s = seen c.source_of.result in
    let lines : c.lines.result ≡ length r.marks =
    c.lines.ensures s c.in_ok-folded.ensures ∙ ap (λ (x : Source). length (shown_lines x)) c.source_of.ensures ∙ lines-marked r c.requires.lawful.marked in
    omega (arith, lines, c.if-line-lines.false, c.in_ok-first.ensures.count)

pub rows_above-requires-clause-lines : goal.rows_above-requires-clause-lines
rows_above-requires-clause-lines c =
    let r = record_of c.args.plain.now in
    let standing = c.in_ok-lines.ensures r (subst (λ (x : Source). AreLinesOf x c.in_ok-folded.folded) c.source_of.ensures c.in_ok-folded.ensures) (sym c.as_str.ensures) in
    c.as_slice-2.ensures.value ∙ standing ∙ ap (map (λ (b : PlainBlock). line_of_block r (block_of b))) c.as_slice.ensures.value

pub overflow_sub-result : goal.overflow_sub-result
overflow_sub-result c =
    let r = record_of c.args.plain.now in
    let s = seen c.source_of.result in
    let lines : c.lines.result ≡ length r.marks =
    c.lines.ensures s c.in_ok-folded.ensures ∙ ap (λ (x : Source). length (shown_lines x)) c.source_of.ensures ∙ lines-marked r c.requires.lawful.marked in
    let lt : c.args.line < length r.marks = omega (arith, lines, c.if-line-lines.false) in
    omega (
      arith,
      c.in_ok-first.ensures.each c.args.line lt,
      get_or_read c.in_ok-first.first.items c.args.line _ (omega (arith, lt, c.in_ok-first.ensures.count)) c.index.ensures 0,
      c.rows_above.ensures,
    )

pub returns : goal.returns
returns c =
    let r = record_of c.args.plain.now in
    let s = seen c.source_of.result in
    let lines : c.lines.result ≡ length r.marks =
    c.lines.ensures s c.in_ok-folded.ensures ∙ ap (λ (x : Source). length (shown_lines x)) c.source_of.ensures ∙ lines-marked r c.requires.lawful.marked in
    let lt : c.args.line < length r.marks = omega (arith, lines, c.if-line-lines.false) in
    omega (
      arith,
      c.in_ok-first.ensures.each c.args.line lt,
      get_or_read c.in_ok-first.first.items c.args.line _ (omega (arith, lt, c.in_ok-first.ensures.count)) c.index.ensures 0,
      c.rows_above.ensures,
      rows-to r c.args.line,
    )
