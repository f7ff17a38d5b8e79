use Rattle.std.proofs.Common.{◌≡◌, ◌≤◌, ℕ, List, length, get_or, sym, ap, subst, ◌∙◌, arith}
use Rattle.std.specs.Result.{IfOk}
use Rattle.cell_line.specs.declared.element.Element.{Element}
use Rattle.cell_line.specs.Elements.{elements_of}
use Rattle.cell_line.specs.Wrapping.{cuts_of, indent_of}
use Rattle.cell_line.proofs.RowTexts.{row_bounds}
use Rattle.row_pieces.specs.declared.row_piece.RowPiece.{RowPiece}
use Rattle.row_pieces.specs.Listed.{lists_of}
use Rattle.row_pieces.specs.Pieces.{bits, cells_in, head_and_later, parts}
use Rattle.row_pieces.specs.inside.Lines.{LiesWithin, begin_of}
use Rattle.row_pieces.proofs.Columns.{same-length}
use Rattle.row_pieces.proofs.PieceTexts.{line-same, same-cells}
use Rattle.row_pieces.proofs.line_rows.pieces_of_line.Goals as goal

abbrev AllLie : List RowPiece → List ℕ → Type 0
AllLie bs cs = (row : ℕ) → row ≤ length cs → LiesWithin bs cs row

pub rows_of_bits-requires-clause-lie : goal.rows_of_bits-requires-clause-lie
rows_of_bits-requires-clause-lie c =
    let pieces = c.args.pieces.now in
    let es = elements_of pieces c.args.tab in
    let made : c.as_slice.result.now ≡ es = c.as_slice.ensures.value ∙ c.in_ok-elements.ensures in
    let cuts : c.as_slice-5.result.now ≡ cuts_of es c.args.width = c.as_slice-5.ensures ∙ c.in_ok-cuts.ensures ∙ ap (λ (l : List Element). cuts_of l c.args.width) made in
    let own : c.as_slice-3.result.now ≡ es = c.as_slice-3.ensures.value ∙ c.in_ok-elements.ensures in
    let parted : c.as_slice-4.result.now ≡ bits pieces es = c.as_slice-4.ensures.value ∙ c.in_ok-bits.ensures ∙ ap (bits pieces) own in
    let size = same-length (bits pieces es) es (line-same pieces c.args.tab) in
    let lie : AllLie (bits pieces es) (cuts_of es c.args.width) = λ row le.
    subst (λ (n : ℕ). (begin_of (cuts_of es c.args.width) row ≤ get_or (cuts_of es c.args.width) row n) × (get_or (cuts_of es c.args.width) row n ≤ n)) (sym size)
    (row_bounds es c.args.width row le) in
    subst (λ (l : List ℕ). AllLie c.as_slice-4.result.now l) (sym cuts) (subst (λ (l : List RowPiece). AllLie l (cuts_of es c.args.width)) (sym parted) lie)

pub rows_of_bits-requires-clause-cells : goal.rows_of_bits-requires-clause-cells
rows_of_bits-requires-clause-cells c =
    let pieces = c.args.pieces.now in
    let es = elements_of pieces c.args.tab in
    let own : c.as_slice-3.result.now ≡ es = c.as_slice-3.ensures.value ∙ c.in_ok-elements.ensures in
    let parted : c.as_slice-4.result.now ≡ bits pieces es = c.as_slice-4.ensures.value ∙ c.in_ok-bits.ensures ∙ ap (bits pieces) own in
    omega (arith, ap cells_in parted, same-cells (bits pieces es) es (line-same pieces c.args.tab), (c.line_laws.ensures.bounds pieces c.args.tab c.requires.tab.1).0, c.requires.size)

pub returns : goal.returns
returns c =
    let pieces = c.args.pieces.now in
    let es = elements_of pieces c.args.tab in
    let made : c.as_slice.result.now ≡ es = c.as_slice.ensures.value ∙ c.in_ok-elements.ensures in
    let cuts : c.as_slice-5.result.now ≡ cuts_of es c.args.width = c.as_slice-5.ensures ∙ c.in_ok-cuts.ensures ∙ ap (λ (l : List Element). cuts_of l c.args.width) made in
    let own : c.as_slice-3.result.now ≡ es = c.as_slice-3.ensures.value ∙ c.in_ok-elements.ensures in
    let parted : c.as_slice-4.result.now ≡ bits pieces es = c.as_slice-4.ensures.value ∙ c.in_ok-bits.ensures ∙ ap (bits pieces) own in
    let two : c.as_slice-2.result.now ≡ es = c.as_slice-2.ensures.value ∙ c.in_ok-elements.ensures in
    let indent : c.indent-indent.result ≡ indent_of es c.args.width = c.indent-indent.ensures ∙ ap (λ (l : List Element). indent_of l c.args.width) two in
    subst (λ (l : List (List RowPiece)). IfOk c.rows_of_bits.result (λ rows. lists_of rows.items ≡ l)) (λ i. head_and_later (indent i) (parts (parted i) 0 (cuts i))) c.rows_of_bits.ensures
