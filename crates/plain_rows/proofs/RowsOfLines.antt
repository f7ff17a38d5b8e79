-- The rows of one display line among those of all.
use Rattle.std.proofs.Common.{◌≡◌, ℕ, ◌+◌, ◌<◌, suc, zero, List, [], ◌∷◌, ◌++◌, length, take, get_or, flat_map, refl, sym, ap, ◌∙◌, arith, append-nil, append_assoc}
use Rattle.std.specs.List.{enumerate_from, zip}
use Rattle.std.proofs.lemmas.List.{get_or-map, length-map, take_more}
use Rattle.std.proofs.lemmas.List.Concat.{flat_map-append}
use Rattle.cell_units.specs.declared.place.Side.TheVariants.{Above, Below}
use Rattle.cell_units.specs.Record.{Mark, Record}
use Rattle.cell_units.specs.Lawful.{IsMarked, source_of}
use Rattle.cell_units.specs.Layers.{shown_lines}
use Rattle.cell_units.specs.Folded.{display_lines}
use Rattle.cell_units.specs.Pieces.{folded_lines, pieces_of}
use Rattle.cell_line.specs.Elements.{elements_of}
use Rattle.plain_rows.specs.Plain.{marks_of, row_pairs}
use Rattle.plain_rows.specs.Rows.{Row, blocks_at, line_elements, line_rows, rows_by_line, text_rows}
use Rattle.plain_rows.proofs.BuiltRows.{Pairs, pairs-append}

enumerated : {X : Type 0} (n : ℕ) (xs : List X) (k : ℕ) (d : X) → k < length xs → get_or (enumerate_from n xs) k (0, d) ≡ (n + k, get_or xs k d)
enumerated n [] k d lt = absurd (omega (arith, lt))
enumerated n (x ∷ xs) zero d lt = let e : n ≡ n + 0 = omega arith in ap (λ (m : ℕ). (m, x)) e
enumerated n (x ∷ xs) (suc k) d lt =
    let e : n + 1 + k ≡ n + suc k = omega arith in
    enumerated (n + 1) xs k d (omega arith) ∙ ap (λ (m : ℕ). (m, get_or xs k d)) e

pub length-enumerated : {X : Type 0} (n : ℕ) (xs : List X) → length (enumerate_from n xs) ≡ length xs
length-enumerated n [] = refl
length-enumerated n (x ∷ xs) = ap suc (length-enumerated (n + 1) xs)

zipped : {X Y : Type 0} (xs : List X) (ys : List Y) (k : ℕ) (d : X) (e : Y) → k < length xs → k < length ys → get_or (zip xs ys) k (d, e) ≡ (get_or xs k d, get_or ys k e)
zipped [] ys k d e lt also = absurd (omega (arith, lt))
zipped (x ∷ xs) [] k d e lt also = absurd (omega (arith, also))
zipped (x ∷ xs) (y ∷ ys) zero d e lt also = refl
zipped (x ∷ xs) (y ∷ ys) (suc k) d e lt also = zipped xs ys k d e (omega arith) (omega arith)

length-zipped : {X Y : Type 0} (xs : List X) (ys : List Y) → length xs ≡ length ys → length (zip xs ys) ≡ length xs
length-zipped [] ys e = refl
length-zipped (x ∷ xs) [] e = absurd (omega (arith, e))
length-zipped (x ∷ xs) (y ∷ ys) e = ap suc (length-zipped xs ys (omega (arith, e)))

-- the widths of marks
pub width-at : (widths : List ℕ) (k : ℕ) (d : Mark) → k < length widths → (get_or (marks_of widths) k d).width ≡ get_or widths k 0
width-at widths k d lt =
    let size : k < length (enumerate_from 0 widths) = omega (arith, lt, length-enumerated 0 widths) in
    ap (λ (m : Mark). m.width) (get_or-map (λ n. record { stamp = n.0; width = n.1 }) (enumerate_from 0 widths) k (0, 0) d size)
    ∙ ap (λ n. n.1) (enumerated 0 widths k 0 lt)

pub length-marks : (widths : List ℕ) → length (marks_of widths) ≡ length widths
length-marks widths = length-map (enumerate_from 0 widths) (λ n. record { stamp = n.0; width = n.1 }) ∙ length-enumerated 0 widths

module _ (r : Record) (marked : IsMarked r) where
  -- one mark for each display line
  pub lines-marked : length (shown_lines (source_of r)) ≡ length r.marks
  lines-marked = length-map (display_lines r.text r.inlays r.folds) pieces_of ∙ sym marked

  pub length-elements : length (line_elements r) ≡ length r.marks
  length-elements =
      length-map (folded_lines r.text r.inlays r.folds) (λ pieces. elements_of pieces r.tab)
      ∙ length-map (display_lines r.text r.inlays r.folds) pieces_of
      ∙ sym marked

  length-line_rows : length (line_rows r) ≡ length r.marks
  length-line_rows =
      length-map (zip (line_elements r) r.marks) (λ l. text_rows l.0 l.1.width)
      ∙ length-zipped (line_elements r) r.marks length-elements
      ∙ length-elements

  pub length-rows_by_line : length (rows_by_line r) ≡ length r.marks
  unfolding rows_by_line
  length-rows_by_line =
      length-map (enumerate_from 0 (line_rows r)) (λ n. blocks_at r Above n.0 ++ (n.1 ++ blocks_at r Below n.0))
      ∙ length-enumerated 0 (line_rows r)
      ∙ length-line_rows

  pub elements-at : (k : ℕ) → k < length r.marks → get_or (line_elements r) k [] ≡ elements_of (get_or (folded_lines r.text r.inlays r.folds) k []) r.tab
  elements-at k lt =
      get_or-map (λ pieces. elements_of pieces r.tab) (folded_lines r.text r.inlays r.folds) k [] []
      (omega (arith, lt, length-elements, length-map (folded_lines r.text r.inlays r.folds) (λ pieces. elements_of pieces r.tab)))

  pub line_rows-at : (k : ℕ) (d : Mark) → k < length r.marks → get_or (line_rows r) k [] ≡ text_rows (get_or (line_elements r) k []) (get_or r.marks k d).width
  line_rows-at k d lt =
      let size : k < length (zip (line_elements r) r.marks) = omega (arith, lt, length-zipped (line_elements r) r.marks length-elements, length-elements) in
      get_or-map (λ l. text_rows l.0 l.1.width) (zip (line_elements r) r.marks) k ([], d) [] size
      ∙ ap (λ l. text_rows l.0 l.1.width) (zipped (line_elements r) r.marks k [] d (omega (arith, lt, length-elements)) lt)

  pub rows_by_line-at : (k : ℕ) → k < length r.marks → get_or (rows_by_line r) k [] ≡ blocks_at r Above k ++ (get_or (line_rows r) k [] ++ blocks_at r Below k)
  unfolding rows_by_line
  rows_by_line-at k lt =
      let f = λ (n : ℕ × List Row). blocks_at r Above n.0 ++ (n.1 ++ blocks_at r Below n.0) in
      let size : k < length (enumerate_from 0 (line_rows r)) = omega (arith, lt, length-enumerated 0 (line_rows r), length-line_rows) in
      let zero_k : 0 + k ≡ k = omega arith in
      get_or-map f (enumerate_from 0 (line_rows r)) k (0, []) [] size
      ∙ ap f (enumerated 0 (line_rows r) k [] (omega (arith, lt, length-line_rows)))
      ∙ ap (λ (m : ℕ). blocks_at r Above m ++ (get_or (line_rows r) k [] ++ blocks_at r Below m)) zero_k

  -- the rows of one more line
  pub rows-more : (k : ℕ) (texts : List Row) → k < length r.marks → get_or (line_rows r) k [] ≡ texts →
      row_pairs (flat_map (λ rows. rows) (take (k + 1) (rows_by_line r)))
      ≡ ((row_pairs (flat_map (λ rows. rows) (take k (rows_by_line r))) ++ row_pairs (blocks_at r Above k)) ++ row_pairs texts) ++ row_pairs (blocks_at r Below k)
  rows-more k texts lt is =
      let before = flat_map (λ (rows : List Row). rows) (take k (rows_by_line r)) in
      let above = blocks_at r Above k in
      let below = blocks_at r Below k in
      ap (λ (ls : List (List Row)). row_pairs (flat_map (λ rows. rows) ls)) (take_more (rows_by_line r) k [] (omega (arith, lt, length-rows_by_line)))
      ∙ ap row_pairs (flat_map-append (λ (rows : List Row). rows) (take k (rows_by_line r)) (get_or (rows_by_line r) k [] ∷ []) ∙ ap (λ (l : List Row). before ++ l) (append-nil (get_or (rows_by_line r) k []) ∙ rows_by_line-at k lt ∙ ap (λ (t : List Row). above ++ (t ++ below)) is))
      ∙ ap row_pairs (sym (append_assoc before above (texts ++ below)) ∙ sym (append_assoc (before ++ above) texts below))
      ∙ pairs-append ((before ++ above) ++ texts) below
      ∙ ap (λ (l : Pairs). l ++ row_pairs below) (pairs-append (before ++ above) texts ∙ ap (λ (l : Pairs). l ++ row_pairs texts) (pairs-append before above))
