use Rattle.std.proofs.Common.{◌≡◌, ◌≤◌, ℕ, List, [], length, get_or, sym, ap, subst, ◌∙◌, arith}
use Rattle.std.specs.Prelude.{Some, slice_get}
use Rattle.std.proofs.lemmas.Option.{slice_get-get_or, slice_get_past}
use Rattle.cell_line.specs.declared.element.Element.{Element}
use Rattle.cell_line.specs.Elements.{elements_of}
use Rattle.cell_line.specs.Wrapping.{cuts_of, indent_of}
use Rattle.cell_line.proofs.RowTexts.{row_bounds}
use Rattle.row_pieces.specs.declared.row_piece.RowPiece.{RowPiece}
use Rattle.row_pieces.specs.Pieces.{bits, cells_in, pieces_by_row}
use Rattle.row_pieces.specs.inside.Lines.{LiesWithin, begin_of, row_of}
use Rattle.row_pieces.proofs.Columns.{length-line, rows-at, same-length}
use Rattle.row_pieces.proofs.PieceTexts.{line-same, same-cells}
use Rattle.row_pieces.proofs.line_rows.pieces_of_line_row.Goals as goal

abbrev Lies : List RowPiece → List ℕ → ℕ → Type 0
Lies bs cs row = row ≤ length cs → LiesWithin bs cs row

pub returns-then-row-as_slice : goal.returns-then-row-as_slice
returns-then-row-as_slice c =
    let pieces = c.args.pieces.now in
    let es = elements_of pieces c.args.tab in
    let made : c.as_slice.result.now ≡ es = c.as_slice.ensures.value ∙ c.in_ok-elements.ensures in
    let cuts : c.as_slice-2.result.now ≡ cuts_of es c.args.width = c.as_slice-2.ensures ∙ c.in_ok-cuts.ensures ∙ ap (λ (l : List Element). cuts_of l c.args.width) made in
    sym (slice_get_past (pieces_by_row pieces c.args.tab c.args.width) c.args.row (omega (arith, c.if-row-as_slice.true, ap length cuts, length-line pieces c.args.tab c.args.width)))

pub joined_row-requires-clause-lies : goal.joined_row-requires-clause-lies
joined_row-requires-clause-lies c =
    let pieces = c.args.pieces.now in
    let es = elements_of pieces c.args.tab in
    let made : c.as_slice.result.now ≡ es = c.as_slice.ensures.value ∙ c.in_ok-elements.ensures in
    let before : c.as_slice-2.result.now ≡ cuts_of es c.args.width = c.as_slice-2.ensures ∙ c.in_ok-cuts.ensures ∙ ap (λ (l : List Element). cuts_of l c.args.width) made in
    let cuts : c.as_slice-6.result.now ≡ cuts_of es c.args.width = c.as_slice-6.ensures ∙ c.in_ok-cuts.ensures ∙ ap (λ (l : List Element). cuts_of l c.args.width) made in
    let own : c.as_slice-4.result.now ≡ es = c.as_slice-4.ensures.value ∙ c.in_ok-elements.ensures in
    let parted : c.as_slice-5.result.now ≡ bits pieces es = c.as_slice-5.ensures.value ∙ c.in_ok-bits.ensures ∙ ap (bits pieces) own in
    let size = same-length (bits pieces es) es (line-same pieces c.args.tab) in
    let row : ℕ = c.args.row in
    let lie : Lies (bits pieces es) (cuts_of es c.args.width) row = λ le.
    subst (λ (n : ℕ). (begin_of (cuts_of es c.args.width) row ≤ get_or (cuts_of es c.args.width) row n) × (get_or (cuts_of es c.args.width) row n ≤ n)) (sym size)
    (row_bounds es c.args.width row le) in
    subst (λ (l : List ℕ). Lies c.as_slice-5.result.now l row) (sym cuts) (subst (λ (l : List RowPiece). Lies l (cuts_of es c.args.width) row) (sym parted) lie)
    (omega (arith, c.if-row-as_slice.false, ap length before, ap length cuts))

pub joined_row-requires-clause-cells : goal.joined_row-requires-clause-cells
joined_row-requires-clause-cells c =
    let pieces = c.args.pieces.now in
    let es = elements_of pieces c.args.tab in
    let own : c.as_slice-4.result.now ≡ es = c.as_slice-4.ensures.value ∙ c.in_ok-elements.ensures in
    let parted : c.as_slice-5.result.now ≡ bits pieces es = c.as_slice-5.ensures.value ∙ c.in_ok-bits.ensures ∙ ap (bits pieces) own in
    omega (arith, ap cells_in parted, same-cells (bits pieces es) es (line-same pieces c.args.tab), (c.line_laws.ensures.bounds pieces c.args.tab c.requires.tab.1).0, c.requires.size)

pub returns : goal.returns
returns c =
    let pieces = c.args.pieces.now in
    let es = elements_of pieces c.args.tab in
    let made : c.as_slice.result.now ≡ es = c.as_slice.ensures.value ∙ c.in_ok-elements.ensures in
    let before : c.as_slice-2.result.now ≡ cuts_of es c.args.width = c.as_slice-2.ensures ∙ c.in_ok-cuts.ensures ∙ ap (λ (l : List Element). cuts_of l c.args.width) made in
    let cuts : c.as_slice-6.result.now ≡ cuts_of es c.args.width = c.as_slice-6.ensures ∙ c.in_ok-cuts.ensures ∙ ap (λ (l : List Element). cuts_of l c.args.width) made in
    let three : c.as_slice-3.result.now ≡ es = c.as_slice-3.ensures.value ∙ c.in_ok-elements.ensures in
    let own : c.as_slice-4.result.now ≡ es = c.as_slice-4.ensures.value ∙ c.in_ok-elements.ensures in
    let parted : c.as_slice-5.result.now ≡ bits pieces es = c.as_slice-5.ensures.value ∙ c.in_ok-bits.ensures ∙ ap (bits pieces) own in
    let indent : c.indent-indent.result ≡ indent_of es c.args.width = c.indent-indent.ensures ∙ ap (λ (l : List Element). indent_of l c.args.width) three in
    let row : ℕ = c.args.row in
    let le : row ≤ length (cuts_of es c.args.width) = omega (arith, c.if-row-as_slice.false, ap length before) in
    ap Some
    (c.in_ok-found.ensures ∙ (λ i. row_of (parted i) (cuts i) (indent i) row) ∙ sym (rows-at (indent_of es c.args.width) (bits pieces es) (cuts_of es c.args.width) row le))
    ∙ sym (slice_get-get_or (pieces_by_row pieces c.args.tab c.args.width) row [] (omega (arith, le, length-line pieces c.args.tab c.args.width)))
