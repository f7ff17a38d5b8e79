-- Sums that are ordered by one measure.
use Rattle.std.specs.Prelude.{◌≡◌, ℕ, ◌≤◌, false, refl}
use Rattle.std.specs.Ordering.{is_gt, nat_cmp}
use Rattle.std.proofs.Common.{arith}
use Rattle.std.proofs.lemmas.Bool.Decides.{nat_tests}
use Rattle.sum_core.specs.Sums.{DimensionLaws}
use Rattle.sum_core.specs.Measures.{MeasureLaws}
use Rattle.sum_core.specs.declared.measure.By.{By}

not_greater : (m n : ℕ) → m ≤ n → is_gt (nat_cmp m n) ≡ false
not_greater m n le = grind (arith, nat_tests)

-- a sum as a place
abbrev pub by_sum : {S M : Type 0} → (S → ℕ) → S → By S M
by_sum number s = record { at = number s; sum = s; measure = record {} }

pub by_laws : {S M : Type 0} (joined : S → S → S) (fits : S → Type 0) (number : S → ℕ) → MeasureLaws joined fits number
    → DimensionLaws joined fits (λ (a b : By S M). by_sum number (joined a.sum b.sum)) (λ a b. fits (joined a.sum b.sum)) (by_sum number) (λ a b. nat_cmp a.at b.at)
by_laws joined fits number laws = record {
  of_joined = λ x y. refl;
  fits_joined = λ x y f. f;
  left_not_greater = λ x y f. not_greater (number x) (number (joined x y)) (laws.left_at_most x y f);
  right_not_greater = λ x y f. not_greater (number y) (number (joined x y)) (laws.right_at_most x y f);
}
