-- No piece of a row depends on stamps.
use Rattle.std.proofs.Common.{◌≡◌, ℕ, ◌++◌, List, [], ◌∷◌, map, flat_map, refl, sym, ap, ◌∙◌}
use Rattle.std.specs.List.{enumerate_from, zip}
use Rattle.cell_units.specs.declared.piece.Piece.{Piece}
use Rattle.cell_units.specs.declared.place.Side.TheVariants.{Above, Below}
use Rattle.cell_units.specs.Pieces.{folded_lines}
use Rattle.cell_units.specs.Record.{Mark, Record}
use Rattle.display_sheet.specs.Shown.{unstamped}
use Rattle.display_sheet.proofs.Sheets.{widths, widths-marks_of}
use Rattle.row_pieces.specs.declared.row_piece.RowPiece.{RowPiece}
use Rattle.row_pieces.specs.Pieces.{block_pieces_at, line_pieces, pieces_by_line, pieces_by_row, pieces_in_rows}

zipped-widths : (tab : ℕ) (lines : List (List Piece)) (marks : List Mark) →
    map (λ l. pieces_by_row l.0 tab l.1.width) (zip lines marks) ≡ map (λ l. pieces_by_row l.0 tab l.1) (zip lines (widths marks))
zipped-widths tab [] marks = refl
zipped-widths tab (l ∷ ls) [] = refl
zipped-widths tab (l ∷ ls) (m ∷ ms) = ap (λ (rows : List (List (List RowPiece))). pieces_by_row l tab m.width ∷ rows) (zipped-widths tab ls ms)

line_pieces-unstamped : (r : Record) → line_pieces (unstamped r) ≡ line_pieces r
line_pieces-unstamped r =
    let lines = folded_lines r.text r.inlays r.folds in
    zipped-widths r.tab lines (unstamped r).marks
    ∙ ap (λ (ws : List ℕ). map (λ l. pieces_by_row l.0 r.tab l.1) (zip lines ws)) (widths-marks_of (widths r.marks))
    ∙ sym (zipped-widths r.tab lines r.marks)

pub by_line-unstamped : (r : Record) → pieces_by_line (unstamped r) ≡ pieces_by_line r
by_line-unstamped r =
    ap (λ (ls : List (List (List RowPiece))). map (λ n. block_pieces_at r Above n.0 ++ (n.1 ++ block_pieces_at r Below n.0)) (enumerate_from 0 ls))
    (line_pieces-unstamped r)

pub pieces-unstamped : (r : Record) → pieces_in_rows (unstamped r) ≡ pieces_in_rows r
unfolding pieces_in_rows
pieces-unstamped r = ap (λ (lines : List (List (List RowPiece))). flat_map (λ rows. rows) lines) (by_line-unstamped r)
