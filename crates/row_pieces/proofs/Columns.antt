-- The pieces of one row of a line, and the columns at which they begin.
use Rattle.std.proofs.Common.{◌≡◌, ℕ, ◌+◌, ◌-◌, ◌<◌, ◌≤◌, zero, suc, Bool, true, false, cond, nat_eq, nat_le, List, [], ◌∷◌, ◌++◌, length, map, take, drop, get_or, slice_range, refl, sym, ap, ◌∙◌, arith}
use Rattle.std.specs.List.{count_by}
use Rattle.std.proofs.lemmas.Bool.Decides.{nat_tests}
use Rattle.std.proofs.lemmas.List.{get_or-map, take_rest, take-take}
use Rattle.std.proofs.lemmas.List.Sums.{sum_by-cons}
use Rattle.cell_units.specs.declared.piece.Piece.{Piece}
use Rattle.cell_line.specs.declared.element.Element.{Element}
use Rattle.cell_line.specs.Elements.{elements_of, total_cells}
use Rattle.cell_line.specs.Laws.{AreRowStarts}
use Rattle.cell_line.specs.Wrapping.{cuts_of, indent_of, next_start_of}
use Rattle.cell_line.proofs.LineLaws.{cuts_law}
use Rattle.cell_line.proofs.Rows.{cuts-off, next_start_within}
use Rattle.cell_line.proofs.RowTexts.{row_bounds}
use Rattle.row_pieces.specs.declared.row_piece.RowPiece.{RowPiece}
use Rattle.row_pieces.specs.Laws.{BeginsAt, bits_between, bits_of_row, indent_at, row_begin, row_end}
use Rattle.row_pieces.specs.Pieces.{bits, cells_in, head_and_later, indent_before, joined, parts, pieces_by_row}
use Rattle.row_pieces.specs.inside.Lines.{row_of}
use Rattle.row_pieces.proofs.Parting.{parted-elements}
use Rattle.row_pieces.proofs.PieceTexts.{AreSame, joined-cells, line-same, same-cells, slice-same}

-- ---- the pieces of one row

module _ {X : Type 0} where
  length-parts : (xs : List X) (start : ℕ) (cuts : List ℕ) → length (parts xs start cuts) ≡ length cuts + 1
  length-parts xs start [] = refl
  length-parts xs start (cut ∷ cuts) = omega (arith, length-parts xs cut cuts)

  get_or-parts : (xs : List X) (start : ℕ) (cuts : List ℕ) (row : ℕ) → row ≤ length cuts →
      get_or (parts xs start cuts) row [] ≡ slice_range xs (get_or (start ∷ cuts) row 0) (get_or cuts row (length xs))
  get_or-parts xs start [] zero le = sym (take_rest xs start)
  get_or-parts xs start [] (suc row) le = absurd (omega arith)
  get_or-parts xs start (cut ∷ cuts) zero le = refl
  get_or-parts xs start (cut ∷ cuts) (suc row) le = get_or-parts xs cut cuts row (omega arith)

pub same-length : (ps : List RowPiece) (es : List Element) → AreSame ps es → length ps ≡ length es
same-length [] [] h = refl
same-length [] (e ∷ es) h = absurd h
same-length (p ∷ ps) [] h = absurd h
same-length (p ∷ ps) (e ∷ es) h = ap suc (same-length ps es h.2)

part_pieces : (indent : ℕ) (ps : List (List RowPiece)) (row : ℕ) → row < length ps →
    get_or (head_and_later indent ps) row [] ≡ indent_before (cond (nat_eq row 0) 0 indent) (joined (get_or ps row []))
part_pieces indent [] row lt = absurd (omega arith)
part_pieces indent (p ∷ ps) zero lt = refl
part_pieces indent (p ∷ ps) (suc row) lt =
    let later : nat_eq (suc row) 0 ≡ false = grind (arith, nat_tests) in
    get_or-map (λ (part : List RowPiece). indent_before indent (joined part)) ps row [] [] (omega arith)
    ∙ ap (λ (b : Bool). indent_before (cond b 0 indent) (joined (get_or ps row []))) (sym later)

module _ (indent : ℕ) (xs : List RowPiece) (cuts : List ℕ) where
  later_count : (ps : List (List RowPiece)) → length (map (λ later. indent_before indent (joined later)) ps) ≡ length ps
  later_count [] = refl
  later_count (p ∷ ps) = ap suc (later_count ps)

  same_count : (ps : List (List RowPiece)) → length (head_and_later indent ps) ≡ length ps
  same_count [] = refl
  same_count (p ∷ ps) = ap suc (later_count ps)

  -- there is a row for each cut, and one more
  pub length-rows : length (head_and_later indent (parts xs 0 cuts)) ≡ length cuts + 1
  length-rows = same_count (parts xs 0 cuts) ∙ length-parts xs 0 cuts

  -- the row of each number
  pub rows-at : (row : ℕ) → row ≤ length cuts → get_or (head_and_later indent (parts xs 0 cuts)) row [] ≡ row_of xs cuts indent row
  rows-at row le =
      part_pieces indent (parts xs 0 cuts) row (omega (arith, length-parts xs 0 cuts))
      ∙ ap (λ (l : List RowPiece). indent_before (cond (nat_eq row 0) 0 indent) (joined l)) (get_or-parts xs 0 cuts row le)

pub length-line : (pieces : List Piece) (tab width : ℕ) → length (pieces_by_row pieces tab width) ≡ length (cuts_of (elements_of pieces tab) width) + 1
length-line pieces tab width =
    let es = elements_of pieces tab in
    length-rows (indent_of es width) (bits pieces es) (cuts_of es width)

-- the pieces of a row are its elements, joined, after its indent
pub row-pieces : (pieces : List Piece) (tab width row : ℕ) → row ≤ length (cuts_of (elements_of pieces tab) width) →
    get_or (pieces_by_row pieces tab width) row []
    ≡ indent_before (indent_at (elements_of pieces tab) width row) (joined (bits_of_row pieces tab width row))
row-pieces pieces tab width row le =
    let es = elements_of pieces tab in
    rows-at (indent_of es width) (bits pieces es) (cuts_of es width) row le
    ∙ ap (λ (n : ℕ). indent_before (indent_at es width row) (joined (slice_range (bits pieces es) (row_begin es width row) (get_or (cuts_of es width) row n)))) (same-length (bits pieces es) es (line-same pieces tab))

-- ---- the row of a place

pub count-cons : (place cut : ℕ) (cuts : List ℕ) → count_by (λ c. nat_le c place) (cut ∷ cuts) ≡ cond (nat_le cut place) 1 0 + count_by (λ c. nat_le c place) cuts
count-cons place cut cuts = sum_by-cons (λ c. cond (nat_le c place) 1 0) cut cuts

pub none_yet : (es : List Element) (room start : ℕ) (cuts : List ℕ) (place : ℕ) → AreRowStarts es room start cuts → place < start → count_by (λ c. nat_le c place) cuts ≡ 0
none_yet es room start [] place h lt = refl
none_yet es room start (k ∷ ks) place h lt =
    let next = next_start_within es room k h.1 in
    let past : nat_le k place ≡ false = grind (arith, nat_tests, h.0, lt) in
    omega (arith, count-cons place k ks, ap {B = ℕ} (λ (b : Bool). cond b 1 0) past, none_yet es room (next_start_of es room k) ks place h.2 (omega (arith, next.0, h.0, lt)))

not_before : (es : List Element) (room start : ℕ) (cuts : List ℕ) (row : ℕ) → AreRowStarts es room start cuts → row < length cuts → start ≤ get_or cuts row 0
not_before es room start [] row h lt = absurd (omega arith)
not_before es room start (k ∷ ks) zero h lt = omega (arith, h.0)
not_before es room start (k ∷ ks) (suc row) h lt =
    let next = next_start_within es room k h.1 in
    omega (arith, next.0, h.0, not_before es room (next_start_of es room k) ks row h.2 (omega arith))

count-row : (es : List Element) (room prev start : ℕ) (cuts : List ℕ) (row place past : ℕ) → AreRowStarts es room start cuts → row ≤ length cuts →
    get_or (prev ∷ cuts) row 0 ≤ place → place < get_or cuts row past → count_by (λ c. nat_le c place) cuts ≡ row
count-row es room prev start [] zero place past h le from to = refl
count-row es room prev start [] (suc row) place past h le from to = absurd (omega arith)
count-row es room prev start (k ∷ ks) zero place past h le from to = none_yet es room start (k ∷ ks) place h (omega (arith, h.0, to))
count-row es room prev start (k ∷ ks) (suc row) place past h le from to =
    let least = not_before es room start (k ∷ ks) row h (omega arith) in
    let within : nat_le k place ≡ true = grind (arith, nat_tests, h.0, least, from) in
    omega (arith, count-cons place k ks, ap {B = ℕ} (λ (b : Bool). cond b 1 0) within, count-row es room k (next_start_of es room k) ks row place past h.2 (omega arith) from to)

pub row-of-place : (es : List Element) (width row place : ℕ) → row ≤ length (cuts_of es width) → row_begin es width row ≤ place → place < row_end es width row →
    count_by (λ c. nat_le c place) (cuts_of es width) ≡ row
row-of-place es zero row place le from to =
    ap (count_by (λ c. nat_le c place)) (cuts-off es) ∙ go row (omega (arith, le, ap length (cuts-off es))) where
      go : (row : ℕ) → row ≤ 0 → 0 ≡ row
      go zero le = refl
      go (suc row) le = absurd (omega arith)
row-of-place es (suc width) row place le from to =
    count-row es (suc width - indent_of es (suc width)) 0 (next_start_of es (suc width) 0) (cuts_of es (suc width)) row place (length es)
    (cuts_law es (suc width) (omega arith)) le from to

-- ---- columns

-- the column of a place counts the cells of the pieces before it
pub column-cells : (pieces : List Piece) (tab start place : ℕ) → cells_in (joined (bits_between pieces tab start place)) ≡ total_cells (slice_range (elements_of pieces tab) start place)
column-cells pieces tab start place =
    let es = elements_of pieces tab in
    joined-cells (bits_between pieces tab start place)
    ∙ same-cells (bits_between pieces tab start place) (slice_range es start place) (slice-same start place (bits pieces es) es (line-same pieces tab))

some-left : (j : ℕ) (us : List RowPiece) (p : RowPiece) (ps : List RowPiece) → joined (drop j us) ≡ p ∷ ps → j < length us
some-left zero [] p ps e = absurd (omega (arith, ap length e))
some-left zero (u ∷ us) p ps e = omega arith
some-left (suc j) [] p ps e = absurd (omega (arith, ap length e))
some-left (suc j) (u ∷ us) p ps e = omega (arith, some-left j us p ps e)

-- a piece begins at the column that the cells before it make
pub begins-at : (pieces : List Piece) (tab width row : ℕ) (before : List RowPiece) (p : RowPiece) (after : List RowPiece) → row ≤ length (cuts_of (elements_of pieces tab) width) →
    joined (bits_of_row pieces tab width row) ≡ before ++ p ∷ after → BeginsAt (elements_of pieces tab) width row before
begins-at pieces tab width row before p after le e =
    let es = elements_of pieces tab in
    let begin = row_begin es width row in
    let end = row_end es width row in
    let s = parted-elements (bits_between pieces tab begin end) before (p ∷ after) e in
    let bounds = row_bounds es width row le in
    let some = some-left s.place (bits_between pieces tab begin end) p after s.rest in
    let most = length-take-le-any (end - begin) (drop begin (bits pieces es)) in
    let inner : s.place < end - begin = omega (arith, some, most) in
    let width_of : begin + s.place - begin ≡ s.place = omega arith in
    let front : bits_between pieces tab begin (begin + s.place) ≡ take s.place (bits_between pieces tab begin end) =
    ap (λ (n : ℕ). take n (drop begin (bits pieces es))) width_of ∙ sym (take-take s.place (end - begin) (drop begin (bits pieces es)) (omega (arith, inner))) in
    let row_is = row-of-place es width row (begin + s.place) le (omega arith) (omega (arith, inner)) in
    record {
      place = begin + s.place;
      from = omega arith;
      to = omega (arith, inner);
      row_is = row_is;
      col_is =
          ap (λ (k : ℕ). indent_at es width k + total_cells (slice_range es (row_begin es width k) (begin + s.place))) row_is
          ∙ ap (λ (n : ℕ). indent_at es width row + n) (sym (column-cells pieces tab begin (begin + s.place)) ∙ ap (λ (l : List RowPiece). cells_in (joined l)) front ∙ ap cells_in s.front);
    } where
      length-take-le-any : {X : Type 0} (n : ℕ) (xs : List X) → length (take n xs) ≤ n
      length-take-le-any zero xs = omega arith
      length-take-le-any (suc n) [] = omega arith
      length-take-le-any (suc n) (x ∷ xs) = omega (arith, length-take-le-any n xs)
