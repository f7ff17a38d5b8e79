-- Where a search by one measure ends.
use Rattle.std.proofs.Common.{◌≡◌, ℕ, ◌<◌, ◌≤◌, true, false, arith}
use Rattle.std.specs.Ordering.{is_lt, is_le, nat_cmp}
use Rattle.std.proofs.lemmas.Bool.Decides.{nat_tests}
use Rattle.cell_units.specs.declared.place.Bias.{Bias}
use Rattle.cell_units.specs.declared.place.Bias.TheVariants.{Left, Right}
use Rattle.sum_core.specs.declared.measure.By.{By}
use Rattle.sum_tree.specs.Cursors.{is_reached}
use Rattle.sum_tree.specs.Firsts.{IsShort, IsReaching}

above-from_not_lt : (m n : ℕ) → is_lt (nat_cmp m n) ≡ false → n ≤ m
above-from_not_lt m n e = grind (arith, nat_tests)

below-from_lt : (m n : ℕ) → is_lt (nat_cmp m n) ≡ true → m < n
below-from_lt m n e = grind (arith, nat_tests)

above-from_not_le : (m n : ℕ) → is_le (nat_cmp m n) ≡ false → n < m
above-from_not_le m n e = grind (arith, nat_tests)

below-from_le : (m n : ℕ) → is_le (nat_cmp m n) ≡ true → m ≤ n
below-from_le m n e = grind (arith, nat_tests)

pub short-from_test : {S M : Type 0} (bias : Bias) (t u : By S M) → is_reached (λ a b. nat_cmp a.at b.at) bias t u ≡ false → IsShort bias t.at u.at
short-from_test Left t u e = above-from_not_le t.at u.at e
short-from_test Right t u e = above-from_not_lt t.at u.at e

pub reaching-from_test : {S M : Type 0} (bias : Bias) (t u : By S M) → is_reached (λ a b. nat_cmp a.at b.at) bias t u ≡ true → IsReaching bias t.at u.at
reaching-from_test Left t u e = below-from_le t.at u.at e
reaching-from_test Right t u e = below-from_lt t.at u.at e
