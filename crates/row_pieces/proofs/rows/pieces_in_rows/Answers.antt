use Rattle.std.proofs.Common.{◌≡◌, ◌++◌, ◌<◌, ◌≤◌, ℕ, List, [], length, map, get_or, flat_map, ap, sym, subst, ◌∙◌, arith}
use Rattle.std.specs.List.{All}
use Rattle.std.proofs.lemmas.List.{take_all}
use Rattle.cell_units.specs.declared.place.Side.TheVariants.{Above, Below}
use Rattle.cell_units.specs.Lawful.{IsWellFormed, IsWidth, source_of}
use Rattle.cell_units.specs.Layers.{Source, shown_lines}
use Rattle.cell_units.specs.Record.{plain_mark}
use Rattle.cell_line.specs.Elements.{bytes_in}
use Rattle.plain_rows.specs.declared.plain.PlainBlock.{PlainBlock}
use Rattle.plain_rows.specs.FoldedLines.{AreInOrder, AreLinesOf, seen}
use Rattle.plain_rows.specs.Plain.{block_of, record_of}
use Rattle.plain_rows.specs.Rows.{line_of_block}
use Rattle.plain_rows.proofs.LineSizes.{pieces-size, read-some}
use Rattle.plain_rows.proofs.PlainRecords.{plain-blocks_rise, plain-blocks_within}
use Rattle.plain_rows.proofs.RowsOfLines.{length-marks, lines-marked, width-at}
use Rattle.row_pieces.specs.Pieces.{block_pieces_at, pieces_by_line, pieces_by_row, pieces_in_rows}
use Rattle.row_pieces.specs.inside.Lines.{HasOffsets}
use Rattle.row_pieces.proofs.BuiltPieces.{Rows, have-offsets, pieces-more}
use Rattle.row_pieces.proofs.ShownPieces.{length-by_line, line-at}
use Rattle.row_pieces.proofs.rows.pieces_in_rows.Goals as goal

pub block_lines-requires-clause-in_order : goal.block_lines-requires-clause-in_order
block_lines-requires-clause-in_order c =
    subst (AreInOrder (λ (b : PlainBlock). b.offset)) (sym c.as_slice.ensures.value) (plain-blocks_rise c.args.plain.now c.requires.lawful)

pub block_lines-requires-clause-within : goal.block_lines-requires-clause-within
block_lines-requires-clause-within c =
    subst (λ (t : List ℕ). All (λ (b : PlainBlock). b.offset ≤ length t) c.as_slice.result.now) (sym c.as_str.ensures)
    (subst (All (λ (b : PlainBlock). b.offset ≤ length c.args.plain.now.text)) (sym c.as_slice.ensures.value) (plain-blocks_within c.args.plain.now c.requires.lawful))

pub push_at-requires-clause-lines : goal.push_at-requires-clause-lines
push_at-requires-clause-lines c =
    let r = record_of c.args.plain.now in
    let standing = c.in_ok-lines.ensures r (subst (λ (x : Source). AreLinesOf x c.in_ok-folded.folded) c.source_of-source.ensures c.in_ok-folded.ensures) (sym c.as_str.ensures) in
    c.as_slice-2.ensures.value ∙ standing ∙ ap (map (λ (b : PlainBlock). line_of_block r (block_of b))) c.as_slice.ensures.value

pub push_at-requires-in-loop-line-clause-lines : goal.push_at-requires-in-loop-line-clause-lines
push_at-requires-in-loop-line-clause-lines c =
    let r = record_of c.args.plain.now in
    let standing = c.in_ok-lines.ensures r (subst (λ (x : Source). AreLinesOf x c.in_ok-folded.folded) c.source_of-source.ensures c.in_ok-folded.ensures) (sym c.as_str.ensures) in
    c.as_slice-2.ensures.value ∙ standing ∙ ap (map (λ (b : PlainBlock). line_of_block r (block_of b))) c.as_slice.ensures.value

pub pieces-requires-clause-within : goal.pieces-requires-clause-within
pieces-requires-clause-within c =
    omega (arith, c.loop-line-test.true, c.lines-line-end.ensures (seen c.source_of-source.result) c.in_ok-folded.ensures)

pub bounds-marks-line : goal.bounds-marks-line
bounds-marks-line c =
    let p = c.args.plain.now in
    let r = record_of p in
    let s = seen c.source_of-source.result in
    let shown : c.loop-line.line < length (shown_lines s) = omega (arith, c.loop-line-test.true, c.lines-line-end.ensures s c.in_ok-folded.ensures) in
    let lt : c.loop-line.line < length r.marks = omega (arith, shown, ap (λ (x : Source). length (shown_lines x)) c.source_of-source.ensures, lines-marked r c.requires.lawful.marked) in
    omega (arith, lt, length-marks p.marks.items, ap length c.as_slice-marks.ensures.value)

pub push_line-requires-clause-width : goal.push_line-requires-clause-width
push_line-requires-clause-width c =
    let p = c.args.plain.now in
    let r = record_of p in
    let s = seen c.source_of-source.result in
    let line : ℕ = c.loop-line.line in
    let shown : line < length (shown_lines s) = omega (arith, c.loop-line-test.true, c.lines-line-end.ensures s c.in_ok-folded.ensures) in
    let lt : line < length r.marks = omega (arith, shown, ap (λ (x : Source). length (shown_lines x)) c.source_of-source.ensures, lines-marked r c.requires.lawful.marked) in
    let within : line < length p.marks.items = omega (arith, lt, length-marks p.marks.items) in
    subst IsWidth (width-at p.marks.items line (plain_mark 0) within ∙ ap (λ (l : List ℕ). get_or l line 0) (sym c.as_slice-marks.ensures.value))
    (c.requires.lawful.widths line (plain_mark 0) lt)

pub push_line-requires-clause-size : goal.push_line-requires-clause-size
push_line-requires-clause-size c =
    let s = seen c.source_of-source.result in
    omega (arith, pieces-size s c.in_ok-folded.ensures.lawful c.loop-line.line c.in_ok-pieces.pieces.items c.in_ok-pieces.ensures, ap bytes_in c.as_slice-in-loop-line.ensures.value)

pub push_line-requires-clause-offsets : goal.push_line-requires-clause-offsets
push_line-requires-clause-offsets c =
    let p = c.args.plain.now in
    let s = seen c.source_of-source.result in
    let formed : IsWellFormed s = subst IsWellFormed (sym c.source_of-source.ensures) c.requires.lawful.entries.source in
    let shown : c.loop-line.line < length (shown_lines s) = omega (arith, c.loop-line-test.true, c.lines-line-end.ensures s c.in_ok-folded.ensures) in
    let short : length s.text < 4294967296 = omega (arith, c.requires.size, ap (λ (x : Source). length x.text) c.source_of-source.ensures) in
    subst (All HasOffsets) (sym c.as_slice-in-loop-line.ensures.value)
    (have-offsets s formed short c.loop-line.line c.in_ok-pieces.pieces.items c.in_ok-pieces.ensures shown)

pub loop-line-preserved : goal.loop-line-preserved
loop-line-preserved c =
    let p = c.args.plain.now in
    let r = record_of p in
    let s = seen c.source_of-source.result in
    let lawful = c.requires.lawful in
    let line : ℕ = c.loop-line.line in
    let shown : line < length (shown_lines s) = omega (arith, c.loop-line-test.true, c.lines-line-end.ensures s c.in_ok-folded.ensures) in
    let lt : line < length r.marks = omega (arith, shown, ap (λ (x : Source). length (shown_lines x)) c.source_of-source.ensures, lines-marked r lawful.marked) in
    let pieces = c.as_slice-in-loop-line.result.now in
    let width : ℕ = get_or c.as_slice-marks.result.now line 0 in
    let within : line < length p.marks.items = omega (arith, lt, length-marks p.marks.items) in
    let wide : (get_or r.marks line (plain_mark 0)).width ≡ width =
    width-at p.marks.items line (plain_mark 0) within ∙ ap (λ (l : List ℕ). get_or l line 0) (sym c.as_slice-marks.ensures.value) in
    let read : get_or (shown_lines (source_of r)) line [] ≡ pieces =
    ap (λ (x : Source). get_or (shown_lines x) line []) (sym c.source_of-source.ensures)
    ∙ read-some (shown_lines s) line [] c.in_ok-pieces.pieces.items c.in_ok-pieces.ensures
    ∙ sym c.as_slice-in-loop-line.ensures.value in
    let own = pieces_by_row pieces r.tab width in
    let texts = line-at r lawful line lt ∙ (λ i. pieces_by_row (read i) r.tab (wide i)) in
    let above = block_pieces_at r Above line in
    let below = block_pieces_at r Below line in
    record {
      rows =
          c.in_ok-below.ensures.rows
          ∙ ap (λ (l : Rows). l ++ below) (c.in_ok-push_line.ensures ∙ ap (λ (l : Rows). l ++ own) (c.in_ok-above.ensures.rows ∙ ap (λ (l : Rows). l ++ above) c.loop-line.invariant.rows))
          ∙ sym (pieces-more r lawful line own lt texts);
      above = c.in_ok-above.ensures.before;
      below = c.in_ok-below.ensures.before;
    }

pub returns : goal.returns
unfolding pieces_in_rows
returns c =
    let p = c.args.plain.now in
    let r = record_of p in
    let s = seen c.source_of-source.result in
    let lawful = c.requires.lawful in
    let all : length r.marks ≤ c.loop-line.line =
    omega (arith, c.loop-line-test.false, c.lines-line-end.ensures s c.in_ok-folded.ensures, ap (λ (x : Source). length (shown_lines x)) c.source_of-source.ensures, lines-marked r lawful.marked) in
    c.loop-line.invariant.rows ∙ ap (λ (ls : List Rows). flat_map (λ rows. rows) ls) (take_all c.loop-line.line (pieces_by_line r) (omega (arith, all, length-by_line r lawful)))
