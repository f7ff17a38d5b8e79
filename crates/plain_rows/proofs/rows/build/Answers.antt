use Rattle.std.proofs.Common.{◌≡◌, ◌++◌, ◌<◌, ◌≤◌, ℕ, List, [], length, map, get_or, flat_map, ap, sym, subst, ◌∙◌, arith}
use Rattle.std.specs.List.{All}
use Rattle.std.proofs.lemmas.List.{take_all}
use Rattle.cell_units.specs.declared.piece.Piece.{Piece}
use Rattle.cell_units.specs.declared.place.Side.TheVariants.{Above, Below}
use Rattle.cell_units.specs.Lawful.{IsWidth, source_of}
use Rattle.cell_units.specs.Layers.{Source, shown_lines}
use Rattle.cell_units.specs.Record.{plain_mark}
use Rattle.cell_line.specs.Elements.{bytes_in, elements_of}
use Rattle.plain_rows.specs.declared.plain.PlainBlock.{PlainBlock}
use Rattle.plain_rows.specs.FoldedLines.{AreInOrder, AreLinesOf, seen}
use Rattle.plain_rows.specs.Plain.{block_of, record_of, row_pairs}
use Rattle.plain_rows.specs.Rows.{Row, blocks_at, line_of_block, rows_by_line, rows_of, text_rows}
use Rattle.plain_rows.proofs.BuiltRows.{Pairs}
use Rattle.plain_rows.proofs.LineSizes.{pieces-size, read-some}
use Rattle.plain_rows.proofs.PlainRecords.{plain-blocks_rise, plain-blocks_within}
use Rattle.plain_rows.proofs.RowsOfLines.{elements-at, length-marks, length-rows_by_line, line_rows-at, lines-marked, rows-more, width-at}
use Rattle.plain_rows.proofs.rows.build.Goals as goal

pub block_lines-requires-clause-in_order : goal.block_lines-requires-clause-in_order
block_lines-requires-clause-in_order c =
    subst (AreInOrder (λ (b : PlainBlock). b.offset)) (sym c.as_slice.ensures.value) (plain-blocks_rise c.args.plain.now c.requires.lawful)

pub block_lines-requires-clause-within : goal.block_lines-requires-clause-within
block_lines-requires-clause-within c =
    subst (λ (t : List ℕ). All (λ (b : PlainBlock). b.offset ≤ length t) c.as_slice.result.now) (sym c.as_str.ensures)
    (subst (All (λ (b : PlainBlock). b.offset ≤ length c.args.plain.now.text)) (sym c.as_slice.ensures.value) (plain-blocks_within c.args.plain.now c.requires.lawful))

pub push_blocks-requires-clause-lines : goal.push_blocks-requires-clause-lines
push_blocks-requires-clause-lines c =
    let p = c.args.plain.now in
    let r = record_of p in
    let s = seen c.source-source.result in
    let folded = c.in_ok-folded.folded in
    let are = c.in_ok-folded.ensures in
    let standing = c.in_ok-stands.ensures r (subst (λ (x : Source). AreLinesOf x folded) c.source-source.ensures are) (sym c.as_str.ensures) in
    c.as_slice-stands.ensures.value ∙ standing ∙ ap (map (λ (b : PlainBlock). line_of_block r (block_of b))) c.as_slice.ensures.value

pub push_blocks-requires-in-loop-line-clause-lines : goal.push_blocks-requires-in-loop-line-clause-lines
push_blocks-requires-in-loop-line-clause-lines c =
    let p = c.args.plain.now in
    let r = record_of p in
    let s = seen c.source-source.result in
    let folded = c.in_ok-folded.folded in
    let are = c.in_ok-folded.ensures in
    let standing = c.in_ok-stands.ensures r (subst (λ (x : Source). AreLinesOf x folded) c.source-source.ensures are) (sym c.as_str.ensures) in
    c.as_slice-stands.ensures.value ∙ standing ∙ ap (map (λ (b : PlainBlock). line_of_block r (block_of b))) c.as_slice.ensures.value

pub pieces-requires-clause-within : goal.pieces-requires-clause-within
pieces-requires-clause-within c =
    omega (arith, c.loop-line-test.true, c.lines-line-end.ensures (seen c.source-source.result) c.in_ok-folded.ensures)

pub bounds-marks-line : goal.bounds-marks-line
bounds-marks-line c =
    let p = c.args.plain.now in
    let r = record_of p in
    let s = seen c.source-source.result in
    let folded = c.in_ok-folded.folded in
    let are = c.in_ok-folded.ensures in
    let marked = c.requires.lawful.marked in
    let line : ℕ = c.loop-line.line in
    let shown : line < length (shown_lines s) = omega (arith, c.loop-line-test.true, c.lines-line-end.ensures s are) in
    let lt : line < length r.marks = omega (arith, shown, ap (λ (x : Source). length (shown_lines x)) c.source-source.ensures, lines-marked r marked) in
    omega (arith, lt, length-marks p.marks.items, ap length c.as_slice-marks.ensures.value)

pub push_texts-requires-clause-width : goal.push_texts-requires-clause-width
push_texts-requires-clause-width c =
    let p = c.args.plain.now in
    let r = record_of p in
    let s = seen c.source-source.result in
    let folded = c.in_ok-folded.folded in
    let are = c.in_ok-folded.ensures in
    let marked = c.requires.lawful.marked in
    let line : ℕ = c.loop-line.line in
    let shown : line < length (shown_lines s) = omega (arith, c.loop-line-test.true, c.lines-line-end.ensures s are) in
    let lt : line < length r.marks = omega (arith, shown, ap (λ (x : Source). length (shown_lines x)) c.source-source.ensures, lines-marked r marked) in
    let within : line < length p.marks.items = omega (arith, lt, length-marks p.marks.items) in
    subst IsWidth (width-at p.marks.items line (plain_mark 0) within ∙ ap (λ (l : List ℕ). get_or l line 0) (sym c.as_slice-marks.ensures.value))
    (c.requires.lawful.widths line (plain_mark 0) lt)

pub push_texts-requires-clause-size : goal.push_texts-requires-clause-size
push_texts-requires-clause-size c =
    let p = c.args.plain.now in
    let r = record_of p in
    let s = seen c.source-source.result in
    let folded = c.in_ok-folded.folded in
    let are = c.in_ok-folded.ensures in
    omega (arith, pieces-size s are.lawful c.loop-line.line c.in_ok-pieces.pieces.items c.in_ok-pieces.ensures, ap bytes_in c.as_slice-in-loop-line.ensures.value)

pub loop-line-preserved : goal.loop-line-preserved
loop-line-preserved c =
    let p = c.args.plain.now in
    let r = record_of p in
    let s = seen c.source-source.result in
    let folded = c.in_ok-folded.folded in
    let are = c.in_ok-folded.ensures in
    let marked = c.requires.lawful.marked in
    let line : ℕ = c.loop-line.line in
    let shown : line < length (shown_lines s) = omega (arith, c.loop-line-test.true, c.lines-line-end.ensures s are) in
    let lt : line < length r.marks = omega (arith, shown, ap (λ (x : Source). length (shown_lines x)) c.source-source.ensures, lines-marked r marked) in
    let pieces = c.as_slice-in-loop-line.result.now in
    let width : ℕ = get_or c.as_slice-marks.result.now line 0 in
    let within : line < length p.marks.items = omega (arith, lt, length-marks p.marks.items) in
    let wide : (get_or r.marks line (plain_mark 0)).width ≡ width =
    width-at p.marks.items line (plain_mark 0) within ∙ ap (λ (l : List ℕ). get_or l line 0) (sym c.as_slice-marks.ensures.value) in
    let read : get_or (shown_lines (source_of r)) line [] ≡ pieces =
    ap (λ (x : Source). get_or (shown_lines x) line []) (sym c.source-source.ensures)
    ∙ read-some (shown_lines s) line [] c.in_ok-pieces.pieces.items c.in_ok-pieces.ensures
    ∙ sym c.as_slice-in-loop-line.ensures.value in
    let elements = elements-at r marked line lt ∙ ap (λ (ps : List Piece). elements_of ps r.tab) read in
    let texts = line_rows-at r marked line (plain_mark 0) lt ∙ (λ i. text_rows (elements i) (wide i)) in
    let above = row_pairs (blocks_at r Above line) in
    let below = row_pairs (blocks_at r Below line) in
    let own = row_pairs (text_rows (elements_of pieces r.tab) width) in
    record {
      rows =
          c.in_ok-below.ensures.rows
          ∙ ap (λ (l : Pairs). l ++ below) (c.in_ok-push_texts.ensures ∙ ap (λ (l : Pairs). l ++ own) (c.in_ok-above.ensures.rows ∙ ap (λ (l : Pairs). l ++ above) c.loop-line.invariant.rows))
          ∙ sym (rows-more r marked line (text_rows (elements_of pieces r.tab) width) lt texts);
      above = c.in_ok-above.ensures.before;
      below = c.in_ok-below.ensures.before;
    }

pub returns : goal.returns
unfolding rows_of
returns c =
    let p = c.args.plain.now in
    let r = record_of p in
    let s = seen c.source-source.result in
    let folded = c.in_ok-folded.folded in
    let are = c.in_ok-folded.ensures in
    let marked = c.requires.lawful.marked in
    let ended : length (rows_by_line r) ≤ c.loop-line.line =
    omega (arith, c.loop-line-test.false, c.lines-line-end.ensures s are, ap (λ (x : Source). length (shown_lines x)) c.source-source.ensures, lines-marked r marked, length-rows_by_line r marked) in
    c.loop-line.invariant.rows ∙ ap (λ (ls : List (List Row)). row_pairs (flat_map (λ rows. rows) ls)) (take_all c.loop-line.line (rows_by_line r) ended)
