-- The rows of a line are before those of each later line.
use Rattle.std.proofs.Common.{◌≡◌, ℕ, ◌+◌, ◌<◌, ◌≤◌, Bool, true, false, cond, List, [], ◌∷◌, ◌++◌, length, take, zip, get_or, min, refl, ap, ◌∙◌, length-append, arith}
use Rattle.std.specs.List.{count_by, enumerate_from, flat_map}
use Rattle.std.proofs.lemmas.List.{get_or-map, length-map}
use Rattle.std.proofs.lemmas.List.Concat.{length-flat_map}
use Rattle.std.proofs.lemmas.List.FromFn.{get_or-enumerate_from, length-enumerate_from}
use Rattle.std.proofs.lemmas.List.Sums.{sum_by-cons, sum_by_more}
use Rattle.std.proofs.lemmas.Slice.Zip.{get_or-zip, length-zip}
use Rattle.cell_units.specs.declared.place.Side.TheVariants.{Above, Below}
use Rattle.cell_units.specs.Cutting.{cut_lines, onto_line}
use Rattle.cell_units.specs.Record.{Mark, Record, plain_mark}
use Rattle.cell_line.specs.declared.element.Element.{Element}
use Rattle.cell_line.specs.RowTexts.{row_texts_of}
use Rattle.cell_line.specs.Wrapping.{cuts_of}
use Rattle.cell_line.proofs.RowTexts.{length-row_texts_of}
use Rattle.plain_rows.specs.Rows.{Row, blocks_at, head_and_more, line_elements, line_rows, more_row, rows_by_line, text_rows, with_blocks}
use Rattle.plain_rows.specs.Spots.{elements_at, mark_at, rows_before}
use Rattle.plain_rows.proofs.LineSpots.{sum_by-take_rises}

-- there are at least as many lines as breaks
pub lines-breaks : {X : Type 0} (p : X → Bool) (xs : List X) → count_by p xs ≤ length (cut_lines p xs)
lines-breaks p [] = omega arith
lines-breaks {X = X} p (x ∷ xs) = omega (arith, sum_by-cons (λ y. cond (p y) 1 0) x xs, go (p x) (cut_lines p xs) (lines-breaks p xs)) where
  go : (b : Bool) (ls : List (List X)) → count_by p xs ≤ length ls → cond b 1 0 + count_by p xs ≤ length (cond b ((x ∷ []) ∷ ls) (onto_line x ls))
  go true ls h = omega (arith, h)
  go false [] h = omega (arith, h)
  go false (l ∷ ls) h = omega (arith, h)

-- a line has one row more than cuts
pub length-text_rows : (es : List Element) (width : ℕ) → length (text_rows es width) ≡ length (cuts_of es width) + 1
length-text_rows es width = go (row_texts_of es width) ∙ length-row_texts_of es width where
  go : (texts : List (List ℕ)) → length (head_and_more texts) ≡ length texts
  go [] = refl
  go (text ∷ texts) = let e = length-map texts more_row in omega (arith, e)

abbrev pub rows_upto : ℕ → List (List Row) → ℕ
rows_upto k lines = length (flat_map (λ rows. rows) (take k lines))

pub rows_upto-more : (lines : List (List Row)) (k : ℕ) → k < length lines → rows_upto (k + 1) lines ≡ rows_upto k lines + length (get_or lines k [])
rows_upto-more lines k lt =
    omega (
      arith,
      length-flat_map (λ (rows : List Row). rows) (take (k + 1) lines),
      length-flat_map (λ (rows : List Row). rows) (take k lines),
      sum_by_more (λ (rows : List Row). length rows) lines k [] lt,
    )

pub rows_upto-rises : (lines : List (List Row)) (j k : ℕ) → j ≤ k → rows_upto j lines ≤ rows_upto k lines
rows_upto-rises lines j k le =
    omega (
      arith,
      length-flat_map (λ (rows : List Row). rows) (take j lines),
      length-flat_map (λ (rows : List Row). rows) (take k lines),
      sum_by-take_rises (λ (rows : List Row). length rows) lines j k le,
    )

module _ (above below : ℕ → List Row) (lines : List (List Row)) where
  length-with_blocks : length (with_blocks above below lines) ≡ length lines
  length-with_blocks = length-map (enumerate_from 0 lines) (λ (n : ℕ × List Row). above n.0 ++ (n.1 ++ below n.0)) ∙ length-enumerate_from 0 lines

  get_or-with_blocks : (k : ℕ) → k < length lines → get_or (with_blocks above below lines) k [] ≡ above k ++ (get_or lines k [] ++ below k)
  get_or-with_blocks k lt =
      let f = λ (n : ℕ × List Row). above n.0 ++ (n.1 ++ below n.0) in
      let none : ℕ × List Row = (0, []) in
      let at : 0 + k ≡ k = omega arith in
      get_or-map f (enumerate_from 0 lines) k none [] (omega (arith, lt, length-enumerate_from 0 lines))
      ∙ ap f (get_or-enumerate_from 0 lines k none lt)
      ∙ ap (λ (n : ℕ). above n ++ (get_or lines k [] ++ below n)) at

  -- a text row of a line is before all rows of a later line
  pub later_line : (j k row : ℕ) → j < k → j < length lines → row < length (get_or lines j []) →
      rows_upto j (with_blocks above below lines) + length (above j) + row < rows_upto k (with_blocks above below lines)
  later_line j k row lt within is =
      omega (
        arith,
        is,
        rows_upto-rises (with_blocks above below lines) (j + 1) k (omega (arith, lt)),
        rows_upto-more (with_blocks above below lines) j (omega (arith, within, length-with_blocks)),
        ap length (get_or-with_blocks j within),
        length-append (above j) (get_or lines j [] ++ below j),
        length-append (get_or lines j []) (below j),
      )

-- the rows of a line of the record
pub get_or-line_rows : (r : Record) (line : ℕ) → line < length (line_elements r) → line < length r.marks →
    get_or (line_rows r) line [] ≡ text_rows (elements_at r line) (mark_at r line).width
get_or-line_rows r line lt marked =
    let none : List Element × Mark = ([], plain_mark 0) in
    let f = λ (l : List Element × Mark). text_rows l.0 l.1.width in
    get_or-map f (zip (line_elements r) r.marks) line none [] (omega (arith, lt, marked, length-zip (line_elements r) r.marks))
    ∙ ap f (get_or-zip (line_elements r) r.marks line none lt marked)

pub rows_before-later : (r : Record) (j k row : ℕ) → j < k → j < length (line_elements r) → j < length r.marks →
    row ≤ length (cuts_of (elements_at r j) (mark_at r j).width) → rows_before r j + row < rows_before r k
unfolding rows_by_line
rows_before-later r j k row lt within marked is =
    let rows : length (line_rows r) ≡ min (length (line_elements r)) (length r.marks) = length-map (zip (line_elements r) r.marks) (λ (l : List Element × Mark). text_rows l.0 l.1.width) ∙ length-zip (line_elements r) r.marks in
    let more = later_line (blocks_at r Above) (blocks_at r Below) (line_rows r) j k row lt (omega (arith, within, marked, rows))
    (omega (arith, is, ap length (get_or-line_rows r j within marked), length-text_rows (elements_at r j) (mark_at r j).width)) in
    omega (arith, more)

pub length-rows_by_line : (r : Record) → length (line_elements r) ≡ length r.marks → length (rows_by_line r) ≡ length r.marks
unfolding rows_by_line
length-rows_by_line r same =
    omega (
      arith,
      same,
      length-with_blocks (blocks_at r Above) (blocks_at r Below) (line_rows r),
      length-map (zip (line_elements r) r.marks) (λ (l : List Element × Mark). text_rows l.0 l.1.width),
      length-zip (line_elements r) r.marks,
    )

pub get_or-rows_by_line : (r : Record) (line : ℕ) → line < length r.marks → length (line_elements r) ≡ length r.marks →
    get_or (rows_by_line r) line [] ≡ blocks_at r Above line ++ (get_or (line_rows r) line [] ++ blocks_at r Below line)
unfolding rows_by_line
get_or-rows_by_line r line lt same =
    get_or-with_blocks (blocks_at r Above) (blocks_at r Below) (line_rows r) line
    (omega (
      arith,
      lt,
      same,
      length-map (zip (line_elements r) r.marks) (λ (l : List Element × Mark). text_rows l.0 l.1.width),
      length-zip (line_elements r) r.marks,
    ))
