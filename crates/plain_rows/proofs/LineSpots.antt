-- The spot within its line of a place between elements: it doesn't fall as the place rises.
use Rattle.std.proofs.Common.{◌≡◌, ℕ, ◌+◌, ◌-◌, ◌<◌, ◌≤◌, ◌==◌, leb, nat_le, true, cond, if◌then◌else◌, List, [], ◌∷◌, zero, suc, length, take, drop, slice_range, subst, inl, inr, ◌⊎◌, arith}
use Rattle.std.specs.Prelude.{slice_index}
use Rattle.std.specs.List.{count_by, sum_by}
use Rattle.std.proofs.lemmas.Bool.{cases_lt}
use Rattle.std.proofs.lemmas.Bool.Decides.{nat_tests}
use Rattle.std.proofs.lemmas.List.Sums.{count_by-le-length, sum_by-cons}
use Rattle.cell_units.specs.declared.place.Spot.{Spot}
use Rattle.cell_line.specs.declared.element.Element.{Element}
use Rattle.cell_line.specs.Elements.{total_cells}
use Rattle.cell_line.specs.Wrapping.{cuts_of, indent_of}
use Rattle.plain_rows.specs.Spots.{spot_in_line, spot_le}

one_rises : (c a b : ℕ) → a ≤ b → cond (leb c a) 1 0 ≤ cond (leb c b) 1 0
one_rises c a b h = grind (arith, nat_tests, h)

pub cuts_upto-rise : (cuts : List ℕ) (a b : ℕ) → a ≤ b → count_by (λ cut. nat_le cut a) cuts ≤ count_by (λ cut. nat_le cut b) cuts
cuts_upto-rise [] a b h = omega arith
cuts_upto-rise (c ∷ cs) a b h =
    omega (arith, sum_by-cons (λ cut. cond (nat_le cut a) 1 0) c cs, sum_by-cons (λ cut. cond (nat_le cut b) 1 0) c cs, one_rises c a b h, cuts_upto-rise cs a b h)

pub sum_by-take_rises : {X : Type 0} (f : X → ℕ) (xs : List X) (m n : ℕ) → m ≤ n → sum_by f (take m xs) ≤ sum_by f (take n xs)
sum_by-take_rises f xs zero n h = omega arith
sum_by-take_rises f xs (suc m) zero h = absurd (omega (arith, h))
sum_by-take_rises f [] (suc m) (suc n) h = omega arith
sum_by-take_rises f (x ∷ xs) (suc m) (suc n) h =
    omega (arith, sum_by-cons f x (take m xs), sum_by-cons f x (take n xs), sum_by-take_rises f xs m n (omega (arith, h)))

earlier_row : (s t : Spot) → s.row < t.row → spot_le s t ≡ true
earlier_row s t h = grind (arith, nat_tests, h)

same_row : (s t : Spot) → s.row ≡ t.row → s.col ≤ t.col → spot_le s t ≡ true
same_row s t e h = grind (arith, nat_tests, e, h)

-- the column of a place in the row of that number
abbrev pub column_in : List Element → ℕ → ℕ → ℕ → ℕ
column_in es width row place =
    (if row == 0 then 0 else indent_of es width) + total_cells (slice_range es (slice_index (0 ∷ cuts_of es width) row) place)

pub spot_in_line-rises : (es : List Element) (width a b : ℕ) → a ≤ b → spot_le (spot_in_line es width a) (spot_in_line es width b) ≡ true
spot_in_line-rises es width a b h = go (cases_lt (spot_in_line es width a).row (spot_in_line es width b).row) where
  go : ((spot_in_line es width a).row < (spot_in_line es width b).row) ⊎ ((spot_in_line es width b).row ≤ (spot_in_line es width a).row) → spot_le (spot_in_line es width a) (spot_in_line es width b) ≡ true
  go (inl l) = earlier_row (spot_in_line es width a) (spot_in_line es width b) l
  go (inr l) =
      let e : (spot_in_line es width a).row ≡ (spot_in_line es width b).row = omega (arith, l, cuts_upto-rise (cuts_of es width) a b h) in
      let start = slice_index (0 ∷ cuts_of es width) (spot_in_line es width a).row in
      let most : column_in es width (spot_in_line es width a).row a ≤ column_in es width (spot_in_line es width a).row b =
      omega (arith, sum_by-take_rises (λ (x : Element). x.cells) (drop start es) (a - start) (b - start) (omega (arith, h))) in
      same_row (spot_in_line es width a) (spot_in_line es width b) e
      (subst (λ (row : ℕ). column_in es width (spot_in_line es width a).row a ≤ column_in es width row b) e most)

pub spot_in_line-row : (es : List Element) (width place : ℕ) → (spot_in_line es width place).row ≤ length (cuts_of es width)
spot_in_line-row es width place = count_by-le-length (λ cut. nat_le cut place) (cuts_of es width)
