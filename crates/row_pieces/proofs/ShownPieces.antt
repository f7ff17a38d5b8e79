-- Where a position is shown among the pieces of its row.
use Rattle.std.proofs.Common.{◌≡◌, ◌⊎◌, ℕ, ◌+◌, ◌-◌, ◌<◌, ◌≤◌, ◌&&◌, zero, suc, inl, inr, Bool, true, false, cond, eqb, ltb, nat_le, List, [], ◌∷◌, ◌++◌, length, map, filter, flat_map, slice_range, take, get_or, zip, refl, sym, ap, ◌∙◌, subst, arith, length-append}
use Rattle.std.specs.List.{count_by, enumerate_from}
use Rattle.std.proofs.lemmas.Bool.{cases_lt}
use Rattle.std.proofs.lemmas.Bool.Decides.{nat_tests}
use Rattle.std.proofs.lemmas.List.{get_or-append_right, get_or-map, get_or_append_left, length-map}
use Rattle.std.proofs.lemmas.List.Concat.{get_or-flat_map}
use Rattle.std.proofs.lemmas.List.FromFn.{get_or-enumerate_from, length-enumerate_from}
use Rattle.std.proofs.lemmas.Slice.Zip.{get_or-zip}
use Rattle.cell_units.specs.declared.place.Bias.{Bias}
use Rattle.cell_units.specs.declared.place.Bias.TheVariants.{Left, Right}
use Rattle.cell_units.specs.declared.place.Side.{Side}
use Rattle.cell_units.specs.declared.place.Side.TheVariants.{Above, Below}
use Rattle.cell_units.specs.Lawful.{IsLawful}
use Rattle.cell_units.specs.Record.{Mark, Record, plain_mark}
use Rattle.cell_units.specs.declared.piece.Piece.{Piece}
use Rattle.cell_units.specs.Folded.{display_lines, place_in_line}
use Rattle.cell_units.specs.Pieces.{folded_lines, pieces_of}
use Rattle.cell_line.specs.declared.element.Element.{Element}
use Rattle.cell_line.specs.Elements.{elements_of, total_cells}
use Rattle.cell_line.specs.Laws.{AreRowStarts}
use Rattle.cell_line.specs.Wrapping.{cuts_of, indent_of, next_start_of}
use Rattle.cell_line.proofs.LineLaws.{cuts_law}
use Rattle.cell_line.proofs.Rows.{cuts-off}
use Rattle.plain_rows.specs.Rows.{Row, blocks_at, is_on, line_of_block, line_rows, rows_by_line}
use Rattle.plain_rows.specs.Spots.{elements_at, elements_before, mark_at, rows_before, show, spot_in_line}
use Rattle.plain_rows.proofs.LineSpots.{spot_in_line-row}
use Rattle.plain_rows.proofs.RowsInOrder.{rows_upto}
use Rattle.plain_rows.proofs.RowsOfLines.{elements-at}
use Rattle.plain_rows.proofs.SpotFronts.{line_of-within}
use Rattle.row_pieces.specs.declared.row_piece.RowPiece.{RowPiece}
use Rattle.row_pieces.specs.Laws.{IsShownAmong, indent_at, line_at, pieces_at, place_at, row_at, row_begin, row_end}
use Rattle.row_pieces.specs.Pieces.{block_pieces_at, line_pieces, pieces_by_line, pieces_by_row, pieces_in_rows, text_of}
use Rattle.row_pieces.proofs.Columns.{column-cells, count-cons, length-line, none_yet}
use Rattle.row_pieces.proofs.PieceTexts.{AreAlike, blocks_texts, lines_alike}

-- ---- as many rows of pieces as rows

pub length-blocks : (r : Record) (side : Side) (n : ℕ) → length (block_pieces_at r side n) ≡ length (blocks_at r side n)
length-blocks r side n =
    sym (length-map (block_pieces_at r side n) text_of)
    ∙ ap length (blocks_texts r.tab (filter (λ b. is_on side b.side && eqb (line_of_block r b) n) r.blocks))
    ∙ length-map (blocks_at r side n) (λ (row : Row). row.text)

pub alike-length : (xs : List (List RowPiece)) (ys : List Row) → map text_of xs ≡ map (λ (row : Row). row.text) ys → length xs ≡ length ys
alike-length xs ys e = sym (length-map xs text_of) ∙ ap length e ∙ length-map ys (λ (row : Row). row.text)

upto : (r : Record) (n k : ℕ) (ls : List (List (List RowPiece))) (rs : List (List Row)) → AreAlike ls rs →
    length (flat_map (λ rows. rows) (take k (map (λ n. block_pieces_at r Above n.0 ++ (n.1 ++ block_pieces_at r Below n.0)) (enumerate_from n ls))))
    ≡ length (flat_map (λ rows. rows) (take k (map (λ n. blocks_at r Above n.0 ++ (n.1 ++ blocks_at r Below n.0)) (enumerate_from n rs))))
upto r n zero ls rs h = refl
upto r n (suc k) [] [] h = refl
upto r n (suc k) [] (y ∷ ys) h = absurd h
upto r n (suc k) (x ∷ xs) [] h = absurd h
upto r n (suc k) (x ∷ xs) (y ∷ ys) h =
    omega (
      arith,
      length-append (block_pieces_at r Above n ++ (x ++ block_pieces_at r Below n)) (flat_map (λ rows. rows) (take k (map (λ n. block_pieces_at r Above n.0 ++ (n.1 ++ block_pieces_at r Below n.0)) (enumerate_from (n + 1) xs)))),
      length-append (blocks_at r Above n ++ (y ++ blocks_at r Below n)) (flat_map (λ rows. rows) (take k (map (λ n. blocks_at r Above n.0 ++ (n.1 ++ blocks_at r Below n.0)) (enumerate_from (n + 1) ys)))),
      length-append (block_pieces_at r Above n) (x ++ block_pieces_at r Below n),
      length-append x (block_pieces_at r Below n),
      length-append (blocks_at r Above n) (y ++ blocks_at r Below n),
      length-append y (blocks_at r Below n),
      length-blocks r Above n,
      length-blocks r Below n,
      alike-length x y h.0,
      upto r (n + 1) k xs ys h.1,
    )

pub rows-upto : (r : Record) (k : ℕ) → length (flat_map (λ rows. rows) (take k (pieces_by_line r))) ≡ rows_upto k (rows_by_line r)
unfolding rows_by_line
rows-upto r k = upto r 0 k (line_pieces r) (line_rows r) (lines_alike r.tab (folded_lines r.text r.inlays r.folds) r.marks)

-- ---- the pieces of one line

module _ (r : Record) (lawful : IsLawful r) where
  count-lines : length (folded_lines r.text r.inlays r.folds) ≡ length r.marks
  count-lines = length-map (display_lines r.text r.inlays r.folds) pieces_of ∙ sym lawful.marked

  length-zipped : (lines : List (List Piece)) (marks : List Mark) → length marks ≡ length lines → length (zip lines marks) ≡ length lines
  length-zipped [] marks e = refl
  length-zipped (x ∷ xs) [] e = absurd (omega (arith, e))
  length-zipped (x ∷ xs) (m ∷ ms) e = ap suc (length-zipped xs ms (omega (arith, e)))

  length-line_pieces : length (line_pieces r) ≡ length r.marks
  length-line_pieces =
      length-map (zip (folded_lines r.text r.inlays r.folds) r.marks) (λ l. pieces_by_row l.0 r.tab l.1.width)
      ∙ length-zipped (folded_lines r.text r.inlays r.folds) r.marks (sym count-lines)
      ∙ count-lines

  pub length-by_line : length (pieces_by_line r) ≡ length r.marks
  length-by_line =
      length-map (enumerate_from 0 (line_pieces r)) (λ n. block_pieces_at r Above n.0 ++ (n.1 ++ block_pieces_at r Below n.0))
      ∙ length-enumerate_from 0 (line_pieces r)
      ∙ length-line_pieces

  module _ (line : ℕ) (lt : line < length r.marks) where
    in-lines : line < length (folded_lines r.text r.inlays r.folds)
    in-lines = omega (arith, lt, count-lines)

    elements-are : elements_at r line ≡ elements_of (pieces_at r line) r.tab
    elements-are = elements-at r lawful.marked line lt

    pub line-at : get_or (line_pieces r) line [] ≡ pieces_by_row (pieces_at r line) r.tab (mark_at r line).width
    line-at =
        let none : List Piece × Mark = ([], plain_mark 0) in
        get_or-map (λ l. pieces_by_row l.0 r.tab l.1.width) (zip (folded_lines r.text r.inlays r.folds) r.marks) line none []
        (omega (arith, in-lines, length-zipped (folded_lines r.text r.inlays r.folds) r.marks (sym count-lines)))
        ∙ ap (λ (l : List Piece × Mark). pieces_by_row l.0 r.tab l.1.width) (get_or-zip (folded_lines r.text r.inlays r.folds) r.marks line none in-lines lt)

    pub whole-line : get_or (pieces_by_line r) line [] ≡ block_pieces_at r Above line ++ (get_or (line_pieces r) line [] ++ block_pieces_at r Below line)
    whole-line =
        let f = λ (n : ℕ × List (List RowPiece)). block_pieces_at r Above n.0 ++ (n.1 ++ block_pieces_at r Below n.0) in
        let none : ℕ × List (List RowPiece) = (0, []) in
        let at : 0 + line ≡ line = omega arith in
        get_or-map f (enumerate_from 0 (line_pieces r)) line none [] (omega (arith, lt, length-line_pieces, length-enumerate_from 0 (line_pieces r)))
        ∙ ap f (get_or-enumerate_from 0 (line_pieces r) line none (omega (arith, lt, length-line_pieces)))
        ∙ ap (λ (n : ℕ). block_pieces_at r Above n ++ (get_or (line_pieces r) line [] ++ block_pieces_at r Below n)) at

    -- a text row of the line among all rows
    pub row-among : (row : ℕ) → row ≤ length (cuts_of (elements_at r line) (mark_at r line).width) →
        get_or (pieces_in_rows r) (rows_before r line + row) [] ≡ get_or (pieces_by_row (pieces_at r line) r.tab (mark_at r line).width) row []
    unfolding pieces_in_rows
    row-among row le =
        let above = block_pieces_at r Above line in
        let below = block_pieces_at r Below line in
        let texts = pieces_by_row (pieces_at r line) r.tab (mark_at r line).width in
        let count : length texts ≡ length (cuts_of (elements_at r line) (mark_at r line).width) + 1 =
        length-line (pieces_at r line) r.tab (mark_at r line).width ∙ ap (λ (es : List Element). length (cuts_of es (mark_at r line).width) + 1) (sym elements-are) in
        let whole : get_or (pieces_by_line r) line [] ≡ above ++ (texts ++ below) = whole-line ∙ ap (λ (l : List (List RowPiece)). above ++ (l ++ below)) line-at in
        let index : rows_before r line + row ≡ length (flat_map (λ rows. rows) (take line (pieces_by_line r))) + (length above + row) =
        omega (arith, rows-upto r line, length-blocks r Above line) in
        let inner : length above + row - length above ≡ row = omega arith in
        ap (λ (n : ℕ). get_or (flat_map (λ rows. rows) (pieces_by_line r)) n []) index
        ∙ get_or-flat_map (λ (rows : List (List RowPiece)). rows) (pieces_by_line r) line (length above + row) [] [] (omega (arith, lt, length-by_line))
        (omega (arith, ap length whole, length-append above (texts ++ below), length-append texts below, count, le))
        ∙ ap (λ (l : List (List RowPiece)). get_or l (length above + row) []) whole
        ∙ get_or-append_right above (texts ++ below) (length above) (length above + row) [] refl (omega arith)
        ∙ ap (λ (n : ℕ). get_or (texts ++ below) n []) inner
        ∙ get_or_append_left texts below [] row (omega (arith, count, le))

-- ---- the place within its row

most-before : (es : List Element) (byte : ℕ) (bias : Bias) → elements_before es byte bias ≤ length es
most-before [] byte bias = omega arith
most-before (e ∷ es) byte bias = go bias (eqb byte 0) (ltb byte (length e.text)) (most-before es (byte - length e.text) bias) where
  go : (bias : Bias) (a b : Bool) → elements_before es (byte - length e.text) bias ≤ length es →
      cond a 0 (cond b (elements_before (record { text = 1 ∷ 1 ∷ []; cells = 0; tab = false } ∷ []) 1 bias) (1 + elements_before es (byte - length e.text) bias)) ≤ suc (length es)
  go bias true b h = omega arith
  go Left false true h = omega arith
  go Right false true h = omega arith
  go bias false false h = omega (arith, h)

abbrev Bounded : List ℕ → ℕ → ℕ → ℕ → ℕ → Type 0
Bounded cuts prev place past count = (get_or (prev ∷ cuts) count 0 ≤ place) × (place ≤ get_or cuts count past)

counted : (es : List Element) (room prev start : ℕ) (cuts : List ℕ) (place past : ℕ) → AreRowStarts es room start cuts → prev ≤ place → place ≤ past →
    Bounded cuts prev place past (count_by (λ c. nat_le c place) cuts)
counted es room prev start [] place past h low high = (low, high)
counted es room prev start (k ∷ ks) place past h low high = go (cases_lt place k) (λ le. counted es room k (next_start_of es room k) ks place past h.2 le high) where
  go : (place < k) ⊎ (k ≤ place) → (k ≤ place → Bounded ks k place past (count_by (λ c. nat_le c place) ks)) → Bounded (k ∷ ks) prev place past (count_by (λ c. nat_le c place) (k ∷ ks))
  go (inl l) ih =
      subst (λ (n : ℕ). Bounded (k ∷ ks) prev place past n) (sym (none_yet es room start (k ∷ ks) place h (omega (arith, h.0, l)))) (low, omega (arith, l))
  go (inr l) ih =
      let within : nat_le k place ≡ true = grind (arith, nat_tests, l) in
      let one : suc (count_by (λ c. nat_le c place) ks) ≡ count_by (λ c. nat_le c place) (k ∷ ks) = omega (arith, count-cons place k ks, ap {B = ℕ} (λ (b : Bool). cond b 1 0) within) in
      subst (λ (n : ℕ). Bounded (k ∷ ks) prev place past n) one (ih l)

pub row-holds : (es : List Element) (width place : ℕ) → place ≤ length es →
    (row_begin es width (spot_in_line es width place).row ≤ place) × (place ≤ row_end es width (spot_in_line es width place).row)
row-holds es zero place le = subst (λ (cuts : List ℕ). Bounded cuts 0 place (length es) (count_by (λ c. nat_le c place) cuts)) (sym (cuts-off es)) (omega arith, le)
row-holds es (suc width) place le =
    counted es (suc width - indent_of es (suc width)) 0 (next_start_of es (suc width) 0) (cuts_of es (suc width)) place (length es)
    (cuts_law es (suc width) (omega arith)) (omega arith) le

-- ---- where a position is shown

pub shown-among : (r : Record) (o : ℕ) (bias : Bias) → IsLawful r → o ≤ length r.text → IsShownAmong r o bias (line_at r o bias) (place_at r o bias) (row_at r o bias)
unfolding show
shown-among r o bias lawful le =
    let line = line_at r o bias in
    let es = elements_at r line in
    let width = (mark_at r line).width in
    let place = place_at r o bias in
    let within = line_of-within r lawful o bias le in
    let bounds = row-holds es width place (most-before es (place_in_line r.text r.inlays r.folds o bias) bias) in
    let row_within = spot_in_line-row es width place in
    record {
      row_within = row_within;
      from = bounds.0;
      to = bounds.1;
      pieces_are = row-among r lawful line within (row_at r o bias) row_within;
      col_is =
          ap (λ (n : ℕ). indent_at es width (row_at r o bias) + n)
          (ap (λ (l : List Element). total_cells (slice_range l (row_begin es width (row_at r o bias)) place)) (elements-are r lawful line within)
          ∙ sym (column-cells (pieces_at r line) r.tab (row_begin es width (row_at r o bias)) place));
    }
