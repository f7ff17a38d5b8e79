-- The spans of a selection in the calls of `clip` that `select` makes, row by row.
use Rattle.std.proofs.Common.{◌≡◌, ◌≢◌, ◌<◌, ◌≤◌, ◌+◌, ◌-◌, ℕ, ◌==◌, ◌⊎◌, inl, inr, Bool, true, false, cond, if◌then◌else◌, List, [], ◌∷◌, ◌++◌, zero, suc, length, map, filter, nat_lt, Option, Some, refl, ap, sym, ◌∙◌, subst, arith}
use Rattle.std.specs.List.{Contains, range_with_len}
use Rattle.std.proofs.lemmas.Bool.{cases_Bool, lt-ltb}
use Rattle.std.proofs.lemmas.Bool.Decides.{nat_tests}
use Rattle.cell_units.specs.declared.place.Bias.TheVariants as bias
use Rattle.cell_units.specs.declared.place.Spot.{Spot}
use Rattle.cell_units.specs.Record.{Record}
use Rattle.plain_rows.specs.Spots.{back, clip, greatest, least, spot_le, valid_spots}
use Rattle.plain_rows.specs.Laws.{GreatestOfAll, IsNearestAfter, LastOfRow, LeastAfter}
use Rattle.plain_rows.proofs.Lists.{contains-filtered, contains-some, contains-unfiltered}
use Rattle.view_moves.specs.declared.caret.RowSpan.{RowSpan}
use Rattle.view_moves.specs.Laws.{IsNarrow, at}
use Rattle.view_moves.specs.Moves.{column, greater, in_row, lesser, selection, span, spans_from, spans_of_row}
use Rattle.view_moves.proofs.ByClips.{clipped-valid_left, clipped-valid_right, cols, near_after, near_before}
use Rattle.view_moves.proofs.Carets.{end-is, row_of_test, row_test, start-is}
use Rattle.view_moves.proofs.Clipped.{between_rows, end-clipped, start-clipped}
use Rattle.view_moves.proofs.Spans.{either, some-contained, test_lt}

range-more : (a n : ℕ) → range_with_len a (suc n) ≡ range_with_len a n ++ (a + n) ∷ []
range-more a zero = let e : a ≡ a + 0 = omega arith in ap (λ (m : ℕ). m ∷ []) e
range-more a (suc n) =
    let e : a + 1 + n ≡ a + suc n = omega arith in
    ap (λ (l : List ℕ). a ∷ l) (range-more (a + 1) n ∙ ap (λ (m : ℕ). range_with_len (a + 1) n ++ m ∷ []) e)

split : (p : ℕ → Bool) (g : ℕ → RowSpan) (xs ys : List ℕ) → map g (filter p (xs ++ ys)) ≡ map g (filter p xs) ++ map g (filter p ys)
split p g [] ys = refl
split p g (x ∷ xs) ys = go (p x) (split p g xs ys) where
  go : (b : Bool) → map g (filter p (xs ++ ys)) ≡ map g (filter p xs) ++ map g (filter p ys) →
      map g (cond b (x ∷ filter p (xs ++ ys)) (filter p (xs ++ ys))) ≡ map g (cond b (x ∷ filter p xs) (filter p xs)) ++ map g (filter p ys)
  go true e = ap (λ (l : List RowSpan). g x ∷ l) e
  go false e = e

-- the spans of n rows from a's on
abbrev pub spans_upto : List Spot → Spot → Spot → ℕ → List RowSpan
spans_upto spots a b n = map (span spots a b) (filter (λ row. nat_lt 0 (length (in_row row spots))) (range_with_len a.row n))

pub spans-more : (spots : List Spot) (a b : Spot) (row : ℕ) → a.row ≤ row → spans_upto spots a b (row + 1 - a.row) ≡ spans_upto spots a b (row - a.row) ++ spans_of_row spots a b row
spans-more spots a b row le =
    let has : ℕ → Bool = λ n. nat_lt 0 (length (in_row n spots)) in
    let one : row + 1 - a.row ≡ suc (row - a.row) = omega (arith, le) in
    let here : a.row + (row - a.row) ≡ row = omega (arith, le) in
    ap (λ (n : ℕ). spans_upto spots a b n) one
    ∙ ap (λ (l : List ℕ). map (span spots a b) (filter has l)) (range-more a.row (row - a.row) ∙ ap (λ (m : ℕ). range_with_len a.row (row - a.row) ++ m ∷ []) here)
    ∙ split has (span spots a b) (range_with_len a.row (row - a.row)) (row ∷ [])

module _ (r : Record) (a b : Spot) (row : ℕ) (first : Spot) (is : first ≡ clip r (at row 0) bias.Right) where
  has_row : Contains (valid_spots r) first
  has_row = clipped-valid_right r (at row 0) first is

  from_row : (x : Spot) → x.row ≡ row → spot_le (at row 0) x ≡ true
  from_row x e = grind (arith, nat_tests, e)

  -- where a spot of the row is there, the clip of the row's first column is in it
  in_it : (y : Spot) → Contains (valid_spots r) y → y.row ≡ row → first.row ≡ row
  in_it y m e = go (near_after r (at row 0) first is) where
    go : IsNearestAfter (valid_spots r) (at row 0) first → first.row ≡ row
    go (LastOfRow v n same past last) = same
    go (LeastAfter v n le all within) = between_rows row first y le (all y m (from_row y e)) e
    go (GreatestOfAll v all none empty) = absurd (empty y m e)

  pub none-by : first.row ≢ row → spans_of_row (valid_spots r) a b row ≡ []
  none-by ne = go (cases_Bool (nat_lt 0 (length (in_row row (valid_spots r))))) where
    go : (nat_lt 0 (length (in_row row (valid_spots r))) ≡ true) ⊎ (nat_lt 0 (length (in_row row (valid_spots r))) ≡ false) → spans_of_row (valid_spots r) a b row ≡ []
    go (inl t) =
        let y = some-contained (in_row row (valid_spots r)) (test_lt 0 (length (in_row row (valid_spots r))) t) in
        let of = contains-unfiltered (λ s. s.row == row) (valid_spots r) y.0 y.1 in
        absurd (ne (in_it y.0 of.0 (row_of_test y.0 row of.1)))
    go (inr f) = ap (λ (c : Bool). map (span (valid_spots r) a b) (cond c (row ∷ []) [])) f

  pub span-by : (last : Spot) (from to : ℕ) → IsNarrow r → first.row ≡ row → last ≡ clip r (at row 4294967295) bias.Left →
      from ≡ (if row == a.row then a.col else first.col) → to ≡ (if row == b.row then b.col else last.col) → spans_of_row (valid_spots r) a b row ≡ record { row = row; from = from; to = to } ∷ []
  span-by last from to narrow same ends e f =
      ap (λ (c : Bool). map (span (valid_spots r) a b) (cond c (row ∷ []) [])) there ∙ ap (λ (s : RowSpan). s ∷ []) whole where
        there : nat_lt 0 (length (in_row row (valid_spots r))) ≡ true
        there = lt-ltb 0 (length (in_row row (valid_spots r))) (contains-some (in_row row (valid_spots r)) first (contains-filtered (λ s. s.row == row) (valid_spots r) first has_row (row_test first row same)))

        begins : least (in_row row (valid_spots r)) ≡ Some first
        begins =
            let s = start-is (valid_spots r) first 0 has_row in
            let w = start-clipped (valid_spots r) first first 0 has_row (subst (λ (n : ℕ). IsNearestAfter (valid_spots r) (at n 0) first) (sym same) (near_after r (at row 0) first is)) in
            ap (λ (n : ℕ). least (in_row n (valid_spots r))) (sym same) ∙ s.2 ∙ ap (λ (t : Spot). Some t) (sym s.1 ∙ w)

        finishes : greatest (in_row row (valid_spots r)) ≡ Some last
        finishes =
            let s = end-is (valid_spots r) first 0 has_row in
            let w = end-clipped (valid_spots r) first last 0 4294967295 (cols r narrow) has_row (near_before r (at first.row 4294967295) last (ends ∙ ap (λ (n : ℕ). clip r (at n 4294967295) bias.Left) (sym same))) in
            ap (λ (n : ℕ). greatest (in_row n (valid_spots r))) (sym same) ∙ s.2 ∙ ap (λ (t : Spot). Some t) (sym s.1 ∙ w)

        from_is : (span (valid_spots r) a b row).from ≡ from
        from_is = ap (λ (o : Option Spot). if row == a.row then a.col else column o) begins ∙ sym e

        to_is : (span (valid_spots r) a b row).to ≡ to
        to_is = ap (λ (o : Option Spot). if row == b.row then b.col else column o) finishes ∙ sym f

        whole : span (valid_spots r) a b row ≡ record { row = row; from = from; to = to }
        whole = λ i. record { row = row; from = from_is i; to = to_is i }

pub nothing-more : (xs : List RowSpan) → xs ≡ xs ++ []
nothing-more [] = refl
nothing-more (x ∷ xs) = ap (λ (l : List RowSpan). x ∷ l) (nothing-more xs)

pub nothing-yet : (spots : List Spot) (a b : Spot) → spans_upto spots a b (a.row - a.row) ≡ []
nothing-yet spots a b = let none : a.row - a.row ≡ 0 = omega arith in ap (λ (n : ℕ). spans_upto spots a b n) none

module _ (r : Record) (one other s t a b : Spot) (is_s : s ≡ clip r one bias.Left) (is_t : t ≡ clip r other bias.Left) where
  pub greater-narrow : IsNarrow r → b ≡ greater s t → b.row < 4294967295
  greater-narrow narrow e =
      let m = clipped-valid_left r one s is_s in
      let n = clipped-valid_left r other t is_t in
      subst (λ (x : Spot). x.row < 4294967295) (sym e) (narrow (greater s t) (either (valid_spots r) t s (spot_le s t) n m)).0

  pub selects-start : (n : ℕ) → a ≡ lesser s t → n ≡ back r a bias.Left → n ≡ (selection r one other).start
  unfolding selection
  selects-start n e h = h ∙ ap (λ (x : Spot). back r x bias.Left) (e ∙ (λ i. lesser (is_s i) (is_t i)))

  pub selects-end : (n : ℕ) → b ≡ greater s t → n ≡ back r b bias.Right → n ≡ (selection r one other).end
  unfolding selection
  selects-end n e h = h ∙ ap (λ (x : Spot). back r x bias.Right) (e ∙ (λ i. greater (is_s i) (is_t i)))

  pub selects-spans : (spans : List RowSpan) → a ≡ lesser s t → b ≡ greater s t → spans ≡ spans_from (valid_spots r) a b → spans ≡ (selection r one other).spans
  unfolding selection
  selects-spans spans e f h =
      let low : a ≡ lesser (clip r one bias.Left) (clip r other bias.Left) = e ∙ (λ i. lesser (is_s i) (is_t i)) in
      let high : b ≡ greater (clip r one bias.Left) (clip r other bias.Left) = f ∙ (λ i. greater (is_s i) (is_t i)) in
      h ∙ (λ i. spans_from (valid_spots r) (low i) (high i))
