use Rattle.std.proofs.Common.{◌≡◌, Some, ℕ, ◌<◌, length, get_or, List, arith, ap, sym, ◌∙◌, subst}
use Rattle.std.specs.List.{slice_get}
use Rattle.std.proofs.lemmas.List.{get_or_read}
use Rattle.cell_units.specs.Layers.{Source, shown_lines}
use Rattle.cell_units.specs.Lawful.{IsWidth}
use Rattle.cell_units.specs.Record.{plain_mark}
use Rattle.cell_line.specs.declared.element.Element.{Element}
use Rattle.cell_line.specs.Elements.{elements_of, total_cells}
use Rattle.cell_line.specs.Wrapping.{cuts_of}
use Rattle.plain_rows.specs.Plain.{marks_of, record_of}
use Rattle.plain_rows.specs.Spots.{elements_at}
use Rattle.plain_rows.proofs.RowsOfLines.{length-marks, width-at}
use Rattle.plain_rows.proofs.SpotLines.{cuts-few}
use Rattle.plain_rows.proofs.SpotSizes.{cells-few, elements-count, lines-count_of, pieces-elements, text-rows, width-lawful}
use Rattle.plain_rows.proofs.spots.row_counts.text_rows.Goals as goal

-- the width of the line, as it was read
width-read : (widths : List ℕ) (line w : ℕ) → line < length widths → w ≡ get_or widths line w → w ≡ (get_or (marks_of widths) line (plain_mark 0)).width
width-read widths line w lt is = get_or_read widths line w lt is 0 ∙ sym (width-at widths line (plain_mark 0) lt)

pub pieces-requires-clause-within : goal.pieces-requires-clause-within
pieces-requires-clause-within c =
    let r = record_of c.args.plain.now in
    omega (arith, ap (λ (s : Source). length (shown_lines s)) c.requires.source, c.requires.within, length-marks c.args.plain.now.marks.items, lines-count_of r c.requires.lawful c.requires.size)

pub cuts_of_pieces-requires-clause-fits : goal.cuts_of_pieces-requires-clause-fits
cuts_of_pieces-requires-clause-fits c =
    let r = record_of c.args.plain.now in
    let lt : c.args.line < length r.marks = omega (arith, c.requires.within, length-marks c.args.plain.now.marks.items) in
    let same : elements_of c.deref.result.now c.args.plain.now.tab ≡ elements_at r c.args.line =
    pieces-elements r c.requires.lawful c.requires.size c.args.line c.deref.result.now lt
    (ap (λ (s : Source). slice_get (shown_lines s) c.args.line) (sym c.requires.source) ∙ c.in_ok-pieces.ensures ∙ ap Some (sym c.deref.ensures.value)) in
    (omega (arith, ap length same, elements-count r c.requires.lawful c.requires.size c.args.line lt), omega (arith, ap total_cells same, cells-few r c.requires.lawful c.requires.size c.args.line lt))

pub cuts_of_pieces-requires-clause-lawful : goal.cuts_of_pieces-requires-clause-lawful
cuts_of_pieces-requires-clause-lawful c =
    let r = record_of c.args.plain.now in
    let lt : c.args.line < length r.marks = omega (arith, c.requires.within, length-marks c.args.plain.now.marks.items) in
    subst IsWidth (sym (width-read c.args.plain.now.marks.items c.args.line c.index.result.now c.requires.within c.index.ensures)) (width-lawful r c.requires.lawful c.requires.size c.args.line lt)

pub overflow_cast-result : goal.overflow_cast-result
overflow_cast-result c =
    let p = c.args.plain.now in
    let r = record_of p in
    let lt : c.args.line < length r.marks = omega (arith, c.requires.within, length-marks p.marks.items) in
    let same : elements_of c.deref.result.now p.tab ≡ elements_at r c.args.line =
    pieces-elements r c.requires.lawful c.requires.size c.args.line c.deref.result.now lt
    (ap (λ (s : Source). slice_get (shown_lines s) c.args.line) (sym c.requires.source) ∙ c.in_ok-pieces.ensures ∙ ap Some (sym c.deref.ensures.value)) in
    omega (
      arith,
      c.len.ensures.value,
      ap length c.in_ok-cuts.ensures,
      cuts-few (elements_of c.deref.result.now p.tab) c.index.result.now,
      ap length same,
      elements-count r c.requires.lawful c.requires.size c.args.line lt,
    )

pub overflow_add-result : goal.overflow_add-result
overflow_add-result c =
    let p = c.args.plain.now in
    let r = record_of p in
    let lt : c.args.line < length r.marks = omega (arith, c.requires.within, length-marks p.marks.items) in
    let same : elements_of c.deref.result.now p.tab ≡ elements_at r c.args.line =
    pieces-elements r c.requires.lawful c.requires.size c.args.line c.deref.result.now lt
    (ap (λ (s : Source). slice_get (shown_lines s) c.args.line) (sym c.requires.source) ∙ c.in_ok-pieces.ensures ∙ ap Some (sym c.deref.ensures.value)) in
    omega (
      arith,
      c.len.ensures.value,
      ap length c.in_ok-cuts.ensures,
      cuts-few (elements_of c.deref.result.now p.tab) c.index.result.now,
      ap length same,
      elements-count r c.requires.lawful c.requires.size c.args.line lt,
    )

pub returns : goal.returns
returns c =
    let p = c.args.plain.now in
    let r = record_of p in
    let lt : c.args.line < length r.marks = omega (arith, c.requires.within, length-marks p.marks.items) in
    let same : elements_of c.deref.result.now p.tab ≡ elements_at r c.args.line =
    pieces-elements r c.requires.lawful c.requires.size c.args.line c.deref.result.now lt
    (ap (λ (s : Source). slice_get (shown_lines s) c.args.line) (sym c.requires.source) ∙ c.in_ok-pieces.ensures ∙ ap Some (sym c.deref.ensures.value)) in
    let width = width-read p.marks.items c.args.line c.index.result.now c.requires.within c.index.ensures in
    omega (
      arith,
      c.len.ensures.value,
      ap length c.in_ok-cuts.ensures,
      ap length (ap (λ (es : List Element). cuts_of es c.index.result.now) same ∙ ap (λ (w : ℕ). cuts_of (elements_at r c.args.line) w) width),
      text-rows r c.requires.lawful c.requires.size c.args.line lt,
    )
