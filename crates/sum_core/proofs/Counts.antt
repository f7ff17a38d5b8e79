-- The order of a count, for dimensions that are counts.
use Rattle.std.proofs.Common.{◌≡◌, ℕ, ◌+◌, ◌≤◌, false, arith}
use Rattle.std.specs.Ordering.{is_gt, nat_cmp}
use Rattle.std.proofs.lemmas.Bool.Decides.{nat_tests}

not_greater : (m n : ℕ) → m ≤ n → is_gt (nat_cmp m n) ≡ false
not_greater m n le = grind (arith, nat_tests)

pub count-left_not_greater : (m n : ℕ) → is_gt (nat_cmp m (m + n)) ≡ false
count-left_not_greater m n = not_greater m (m + n) (omega arith)

pub count-right_not_greater : (m n : ℕ) → is_gt (nat_cmp n (m + n)) ≡ false
count-right_not_greater m n = not_greater n (m + n) (omega arith)
