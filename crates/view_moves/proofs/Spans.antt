-- The columns that a selection covers.
use Rattle.std.proofs.Common.{◌≡◌, ◌<◌, ◌≤◌, ◌+◌, ◌-◌, ℕ, ◌==◌, ◌⊎◌, inl, inr, Bool, true, false, cond, if◌then◌else◌, List, [], ◌∷◌, length, map, filter, nat_lt, slice_index_or, Some, refl, ap, sym, ◌∙◌, subst, arith}
use Rattle.std.specs.List.{All, AllPairs, Contains, range_with_len}
use Rattle.std.proofs.lemmas.Bool.{cases_Bool, false≢true}
use Rattle.std.proofs.lemmas.Bool.Decides.{nat_tests}
use Rattle.std.proofs.lemmas.List.{get_or-map, length-map}
use Rattle.std.proofs.lemmas.List.Elements.{All-map, Contains-get_or}
use Rattle.std.proofs.lemmas.List.FromFn.{get_or-range_with_len, length-range_with_len}
use Rattle.std.proofs.lemmas.List.Kept.{AllPairs-filter}
use Rattle.cell_units.specs.declared.place.Bias.TheVariants as bias
use Rattle.cell_units.specs.declared.place.Spot.{Spot}
use Rattle.cell_units.specs.Record.{Record}
use Rattle.plain_rows.specs.Spots.{back, clip, greatest, least, spot_le, valid_spots}
use Rattle.plain_rows.proofs.Lists.{contains-filtered, contains-some, contains-unfiltered}
use Rattle.plain_rows.proofs.Clips.{clip-valid, spot_le-antisym, spot_le-refl, spot_le-total}
use Rattle.view_moves.specs.declared.caret.RowSpan.{RowSpan}
use Rattle.view_moves.specs.Moves.{Selected, column, greater, in_row, lesser, rows_from, selection, span, spans_from}
use Rattle.view_moves.specs.Laws.{IsWithinValid, at}
use Rattle.view_moves.proofs.Carets.{found-greatest, found-least, row_of_test, row_test}

all-from : {X : Type 0} (P : X → Type 0) (xs : List X) → ((x : X) → Contains xs x → P x) → All P xs
all-from P xs h = λ k d l. h (slice_index_or xs k d) (Contains-get_or xs k d l)

range-rises : (a n : ℕ) → AllPairs (λ x y. x < y) (range_with_len a n)
range-rises a n = λ i j d lt within.
    let long = length-range_with_len a n in
    let inside : j < n = omega (arith, within, long) in
    let x = get_or-range_with_len a n i d (omega (arith, lt, inside)) in
    let y = get_or-range_with_len a n j d inside in
    omega (arith, x, y, lt)

pub spans-rise : (spots : List Spot) (a b : Spot) → AllPairs (λ s t. s.row < t.row) (spans_from spots a b)
spans-rise spots a b = λ i j d lt within.
    let rows = rows_from spots a b in
    let inside : j < length rows = omega (arith, within, length-map rows (span spots a b)) in
    let x : (slice_index_or (spans_from spots a b) i d).row ≡ slice_index_or rows i 0 = ap (λ (s : RowSpan). s.row) (get_or-map (span spots a b) rows i 0 d (omega (arith, lt, inside))) in
    let y : (slice_index_or (spans_from spots a b) j d).row ≡ slice_index_or rows j 0 = ap (λ (s : RowSpan). s.row) (get_or-map (span spots a b) rows j 0 d inside) in
    let rise = AllPairs-filter (λ m n. m < n) (λ row. nat_lt 0 (length (in_row row spots))) (range_with_len a.row (b.row + 1 - a.row)) (range-rises a.row (b.row + 1 - a.row)) i j 0 lt inside in
    omega (arith, x, y, rise)

pub some-contained : (xs : List Spot) → 0 < length xs → (y : Spot) × Contains xs y
some-contained [] l = absurd (omega (arith, l))
some-contained (x ∷ xs) l = (x, (0, omega arith, refl))

pub test_lt : (a b : ℕ) → nat_lt a b ≡ true → a < b
test_lt a b l = grind (arith, nat_tests, l)

module _ (spots : List Spot) (a b : Spot) (m : Contains spots a) (n : Contains spots b) (h : spot_le a b ≡ true) where
  -- the spot at which a row's span begins
  begins : (row : ℕ) (y : Spot) → Contains spots y → y.row ≡ row →
      (f : Spot) × Contains spots f × (f.row ≡ row) × (f.col ≡ (span spots a b row).from) × ((f ≡ a) ⊎ ((x : Spot) → Contains spots x → x.row ≡ row → spot_le f x ≡ true))
  begins row y k e = go (cases_Bool (row == a.row)) where
    first : (u : Spot) × (least (in_row row spots) ≡ Some u) × Contains (in_row row spots) u × ((x : Spot) → Contains (in_row row spots) x → spot_le u x ≡ true)
    first = found-least (in_row row spots) y (contains-filtered (λ s. s.row == row) spots y k (row_test y row e))

    of : Contains spots first.0 × ((first.0.row == row) ≡ true)
    of = contains-unfiltered (λ s. s.row == row) spots first.0 first.2

    go : ((row == a.row) ≡ true) ⊎ ((row == a.row) ≡ false) →
        (f : Spot) × Contains spots f × (f.row ≡ row) × (f.col ≡ (if row == a.row then a.col else column (least (in_row row spots)))) × ((f ≡ a) ⊎ ((x : Spot) → Contains spots x → x.row ≡ row → spot_le f x ≡ true))
    go (inl t) =
        let same : a.row ≡ row = grind (arith, nat_tests, t) in
        (a, m, same, sym (ap (λ (c : Bool). if c then a.col else column (least (in_row row spots))) t), inl refl)
    go (inr t) = (
      first.0,
      of.0,
      row_of_test first.0 row of.1,
      sym (ap (λ (c : Bool). if c then a.col else column (least (in_row row spots))) t ∙ ap column first.1),
      inr (λ x l r. first.3 x (contains-filtered (λ s. s.row == row) spots x l (row_test x row r))),
    )

  -- the spot at which it ends
  ends : (row : ℕ) (y : Spot) → Contains spots y → y.row ≡ row →
      (f : Spot) × Contains spots f × (f.row ≡ row) × (f.col ≡ (span spots a b row).to) × ((f ≡ b) ⊎ ((x : Spot) → Contains spots x → x.row ≡ row → spot_le x f ≡ true))
  ends row y k e = go (cases_Bool (row == b.row)) where
    last : (u : Spot) × (greatest (in_row row spots) ≡ Some u) × Contains (in_row row spots) u × ((x : Spot) → Contains (in_row row spots) x → spot_le x u ≡ true)
    last = found-greatest (in_row row spots) y (contains-filtered (λ s. s.row == row) spots y k (row_test y row e))

    of : Contains spots last.0 × ((last.0.row == row) ≡ true)
    of = contains-unfiltered (λ s. s.row == row) spots last.0 last.2

    go : ((row == b.row) ≡ true) ⊎ ((row == b.row) ≡ false) →
        (f : Spot) × Contains spots f × (f.row ≡ row) × (f.col ≡ (if row == b.row then b.col else column (greatest (in_row row spots)))) × ((f ≡ b) ⊎ ((x : Spot) → Contains spots x → x.row ≡ row → spot_le x f ≡ true))
    go (inl t) =
        let same : b.row ≡ row = grind (arith, nat_tests, t) in
        (b, n, same, sym (ap (λ (c : Bool). if c then b.col else column (greatest (in_row row spots))) t), inl refl)
    go (inr t) = (
      last.0,
      of.0,
      row_of_test last.0 row of.1,
      sym (ap (λ (c : Bool). if c then b.col else column (greatest (in_row row spots))) t ∙ ap column last.1),
      inr (λ x l r. last.3 x (contains-filtered (λ s. s.row == row) spots x l (row_test x row r))),
    )

  cols : (f t : Spot) → f.row ≡ t.row → spot_le f t ≡ true → f.col ≤ t.col
  cols f t e l = grind (arith, nat_tests, e, l)

  is_at : (f : Spot) (row col : ℕ) → f.row ≡ row → f.col ≡ col → Contains spots f → Contains spots (at row col)
  is_at f row col e g k = subst (λ (s : Spot). Contains spots s) (λ i. record { row = e i; col = g i }) k

  span-within : (row : ℕ) (y : Spot) → Contains spots y → y.row ≡ row →
      Contains spots (at row (span spots a b row).from) × Contains spots (at row (span spots a b row).to) × ((span spots a b row).from ≤ (span spots a b row).to)
  span-within row y k e =
      let f = begins row y k e in
      let t = ends row y k e in
      let one : f.0.row ≡ t.0.row = f.2 ∙ sym t.2 in
      let le : f.0.col ≤ t.0.col = cols f.0 t.0 one (order f.0 f.1 f.2 f.4 t.0 t.1 t.2 t.4) in
      (is_at f.0 row (span spots a b row).from f.2 f.3 f.1, is_at t.0 row (span spots a b row).to t.2 t.3 t.1, omega (arith, le, f.3, t.3)) where
        order : (f : Spot) → Contains spots f → f.row ≡ row → ((f ≡ a) ⊎ ((x : Spot) → Contains spots x → x.row ≡ row → spot_le f x ≡ true)) →
            (t : Spot) → Contains spots t → t.row ≡ row → ((t ≡ b) ⊎ ((x : Spot) → Contains spots x → x.row ≡ row → spot_le x t ≡ true)) → spot_le f t ≡ true
        order f c e (inr all) t c' e' z = all t c' e'
        order f c e (inl is) t c' e' (inr all) = all f c e
        order f c e (inl is) t c' e' (inl is') = subst (λ (s : Spot). spot_le f s ≡ true) (sym is') (subst (λ (s : Spot). spot_le s b ≡ true) (sym is) h)

  pub spans-within : All (λ s. Contains spots (at s.row s.from) × Contains spots (at s.row s.to) × (s.from ≤ s.to)) (spans_from spots a b)
  spans-within =
      All-map (λ s. Contains spots (at s.row s.from) × Contains spots (at s.row s.to) × (s.from ≤ s.to)) (span spots a b) (rows_from spots a b)
      (all-from (λ row. Contains spots (at row (span spots a b row).from) × Contains spots (at row (span spots a b row).to) × ((span spots a b row).from ≤ (span spots a b row).to)) (rows_from spots a b) each) where
        each : (row : ℕ) → Contains (rows_from spots a b) row → Contains spots (at row (span spots a b row).from) × Contains spots (at row (span spots a b row).to) × ((span spots a b row).from ≤ (span spots a b row).to)
        each row k =
            let of = contains-unfiltered (λ row. nat_lt 0 (length (in_row row spots))) (range_with_len a.row (b.row + 1 - a.row)) row k in
            let y = some-contained (in_row row spots) (test_lt 0 (length (in_row row spots)) of.1) in
            let is = contains-unfiltered (λ s. s.row == row) spots y.0 y.1 in
            span-within row y.0 is.0 (row_of_test y.0 row is.1)

-- the lesser and the greater of two
pub lesser-greater : (s t : Spot) → spot_le (lesser s t) (greater s t) ≡ true
lesser-greater s t = go (spot_le s t) refl where
  go : (c : Bool) → spot_le s t ≡ c → spot_le (if c then s else t) (if c then t else s) ≡ true
  go true e = e
  go false e = spot_le-total s t e

pub either : (spots : List Spot) (s t : Spot) (c : Bool) → Contains spots s → Contains spots t → Contains spots (if c then s else t)
either spots s t true m n = m
either spots s t false m n = n

pub swapped : (s t : Spot) → (lesser s t ≡ lesser t s) × (greater s t ≡ greater t s)
swapped s t = go (spot_le s t) refl (spot_le t s) refl where
  go : (c : Bool) → spot_le s t ≡ c → (d : Bool) → spot_le t s ≡ d → ((if c then s else t) ≡ (if d then t else s)) × ((if c then t else s) ≡ (if d then s else t))
  go true e true f = (spot_le-antisym s t e f, sym (spot_le-antisym s t e f))
  go true e false f = (refl, refl)
  go false e true f = (refl, refl)
  go false e false f = absurd (false≢true (sym f ∙ spot_le-total s t e))

-- what is selected from a to b
abbrev pub between : Record → Spot → Spot → Selected
between r a b = record { start = back r a bias.Left; end = back r b bias.Right; spans = spans_from (valid_spots r) a b }

pub selection-any_order : (r : Record) (one other : Spot) → selection r one other ≡ selection r other one
unfolding selection
selection-any_order r one other =
    let s = clip r one bias.Left in
    let t = clip r other bias.Left in
    let same = swapped s t in
    λ i. between r (same.0 i) (same.1 i)

pub selection-rises : (r : Record) (one other : Spot) → AllPairs (λ s t. s.row < t.row) (selection r one other).spans
unfolding selection
selection-rises r one other =
    let s = clip r one bias.Left in
    let t = clip r other bias.Left in
    spans-rise (valid_spots r) (lesser s t) (greater s t)

pub selection-within : (r : Record) (one other : Spot) → All (IsWithinValid r) (selection r one other).spans
unfolding selection
selection-within r one other =
    let s = clip r one bias.Left in
    let t = clip r other bias.Left in
    let m = clip-valid r one bias.Left in
    let n = clip-valid r other bias.Left in
    spans-within (valid_spots r) (lesser s t) (greater s t)
    (either (valid_spots r) s t (spot_le s t) m n) (either (valid_spots r) t s (spot_le s t) n m) (lesser-greater s t)

-- the one span of a selection that begins where it ends
one-span : (spots : List Spot) (c : Spot) → Contains spots c → spans_from spots c c ≡ record { row = c.row; from = c.col; to = c.col } ∷ []
one-span spots c m = rows ∙ ap (λ (s : RowSpan). s ∷ []) only where
  there : nat_lt 0 (length (in_row c.row spots)) ≡ true
  there = lt_test 0 (length (in_row c.row spots)) (contains-some (in_row c.row spots) c (contains-filtered (λ s. s.row == c.row) spots c m (row_test c c.row refl))) where
    lt_test : (a b : ℕ) → a < b → nat_lt a b ≡ true
    lt_test a b l = grind (arith, nat_tests, l)

  one : c.row + 1 - c.row ≡ 1
  one = omega arith

  rows : spans_from spots c c ≡ span spots c c c.row ∷ []
  rows =
      ap (λ (n : ℕ). map (span spots c c) (filter (λ row. nat_lt 0 (length (in_row row spots))) (range_with_len c.row n))) one
      ∙ ap (λ (b : Bool). map (span spots c c) (cond b (c.row ∷ []) [])) there

  same : (c.row == c.row) ≡ true
  same = row_test c c.row refl

  only : span spots c c c.row ≡ record { row = c.row; from = c.col; to = c.col }
  only = λ i. record {
    row = c.row;
    from = ap (λ (b : Bool). if b then c.col else column (least (in_row c.row spots))) same i;
    to = ap (λ (b : Bool). if b then c.col else column (greatest (in_row c.row spots))) same i;
  }

pub selection-of_one : (r : Record) (d : Spot) → (selection r d d).spans ≡ record { row = (clip r d bias.Left).row; from = (clip r d bias.Left).col; to = (clip r d bias.Left).col } ∷ []
unfolding selection
selection-of_one r d =
    let c = clip r d bias.Left in
    let le = spot_le-refl c in
    let one : lesser c c ≡ c = ap (λ (b : Bool). if b then c else c) le in
    let two : greater c c ≡ c = ap (λ (b : Bool). if b then c else c) le in
    (λ i. spans_from (valid_spots r) (one i) (two i)) ∙ one-span (valid_spots r) c (clip-valid r d bias.Left)
