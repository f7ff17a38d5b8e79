-- Entries that meet offsets of rows are on the rows.
use Rattle.std.proofs.Common.{◌≡◌, ℕ, ◌+◌, ◌-◌, ◌≤◌, ◌&&◌, nat_le, nat_lt, Bool, true, false, cond, List, length, drop, count_by, refl, ap, arith}
use Rattle.std.proofs.lemmas.Bool.Decides.{nat_tests}
use Rattle.std.proofs.lemmas.List.Sums.{sum_by-le-sum_by}
use Rattle.cell_units.specs.Operation.{replaced_text}
use Rattle.cell_units.specs.Record.{Fold, Inlay}
use Rattle.cell_units.specs.Text.{is_feed, row_of}
use Rattle.cell_units.specs.Touched.{RowRange}
use Rattle.cell_units.proofs.ReplacedRows.{line_count_at, row_of-le}
use Rattle.cell_units.proofs.RowsAway.{Spliced, dropped-behind, spliced-replaced, taken-before}
use Rattle.plain_rows.specs.Reach.{meets_rows}

-- ---- counting

-- as many pass a test that lets more through, or more
counted-more : {X : Type 0} (p q : X → Bool) (xs : List X) → ((x : X) → p x ≡ true → q x ≡ true) → count_by p xs ≤ count_by q xs
counted-more p q xs more = sum_by-le-sum_by (λ x. cond (p x) 1 0) (λ x. cond (q x) 1 0) xs (λ x. one (p x) (q x) (more x)) where
  one : (a b : Bool) → (a ≡ true → b ≡ true) → cond a 1 0 ≤ cond b 1 0
  one false b h = omega arith
  one true b h = omega (arith, ap {B = ℕ} (λ (c : Bool). cond c 1 0) (h refl))

both-most : (a b c d : ℕ) → (nat_le a b && nat_le c d) ≡ true → (a ≤ b) × (c ≤ d)
both-most a b c d h = grind (arith, nat_tests)

most-less : (a b c d : ℕ) → (nat_le a b && nat_lt c d) ≡ true → (a ≤ b) × (c ≤ d)
most-less a b c d h = grind (arith, nat_tests)

at-most : (m n : ℕ) → m ≤ n → nat_le m n ≡ true
at-most m n l = grind (arith, nat_tests)

-- ---- the offsets from `from` to `to` are on the rows

module _ (text : List ℕ) (rows : RowRange) (from to : ℕ) (first : rows.first ≤ row_of text from) (last : row_of text to ≤ rows.last) where
  on-rows : (start end : ℕ) → start ≤ to → from ≤ end → meets_rows text rows start end ≡ true
  on-rows start end l m =
      let high = at-most (row_of text start) rows.last (omega (arith, row_of-le text start to l, last)) in
      let low = at-most rows.first (row_of text end) (omega (arith, row_of-le text from end m, first)) in
      λ i. high i && low i

  pub inlays-on : (inlays : List Inlay) → count_by (λ i. nat_le from i.offset && nat_le i.offset to) inlays ≤ count_by (λ i. meets_rows text rows i.offset i.offset) inlays
  inlays-on inlays =
      counted-more (λ i. nat_le from i.offset && nat_le i.offset to) (λ i. meets_rows text rows i.offset i.offset) inlays
      (λ i h. let b = both-most from i.offset i.offset to h in on-rows i.offset i.offset b.1 b.0)

  pub folds-on : (folds : List Fold) → count_by (λ f. nat_le f.start to && nat_le from f.end) folds ≤ count_by (λ f. meets_rows text rows f.start f.end) folds
  folds-on folds =
      counted-more (λ f. nat_le f.start to && nat_le from f.end) (λ f. meets_rows text rows f.start f.end) folds
      (λ f h. let b = both-most f.start to from f.end h in on-rows f.start f.end b.0 b.1)

  pub folds-met_on : (folds : List Fold) → count_by (λ f. nat_le f.start to && nat_lt from f.end) folds ≤ count_by (λ f. meets_rows text rows f.start f.end) folds
  folds-met_on folds =
      counted-more (λ f. nat_le f.start to && nat_lt from f.end) (λ f. meets_rows text rows f.start f.end) folds
      (λ f h. let b = most-less f.start to from f.end h in on-rows f.start f.end b.0 b.1)

-- ---- rows around replaced bytes are those of the ends of these

module _ (text : List ℕ) (a b : ℕ) (new : List ℕ) (order : a ≤ b) (within : b ≤ length text) where
  abbrev made : List ℕ
  made = replaced_text text a b new

  spliced : Spliced text made a b (length new)
  spliced = spliced-replaced text new a b order within

  pub row-before : (o : ℕ) → o ≤ a → row_of text a ≤ row_of text o → row_of made a ≤ row_of made o
  row-before o before same =
      omega (
        arith,
        same,
        ap (count_by is_feed) (taken-before text made a b (length new) spliced o before),
        ap (count_by is_feed) (taken-before text made a b (length new) spliced a (omega arith)),
      )

  pub row-behind : (o : ℕ) → b ≤ o → row_of text o ≤ row_of text b → row_of made (o - b + (a + length new)) ≤ row_of made (a + length new)
  row-behind o behind same =
      let n = length new in
      let there : o + n - (b - a) ≡ o - b + (a + n) = omega (arith, order, behind) in
      let here : b + n - (b - a) ≡ a + n = omega (arith, order) in
      omega (
        arith,
        same,
        line_count_at text o,
        line_count_at text b,
        line_count_at made (o - b + (a + n)),
        line_count_at made (a + n),
        ap (count_by is_feed) (dropped-behind text made a b n spliced o behind),
        ap (λ (k : ℕ). count_by is_feed (drop k made)) there,
        ap (count_by is_feed) (dropped-behind text made a b n spliced b (omega arith)),
        ap (λ (k : ℕ). count_by is_feed (drop k made)) here,
      )
