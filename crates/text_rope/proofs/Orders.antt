-- The order of sizes.
use Rattle.std.proofs.Common.{◌≡◌, ℕ, ◌≤◌, true, false, arith}
use Rattle.std.specs.Ordering.{is_le, nat_cmp, ordering_then}
use Rattle.std.specs.declared.cmp.Ordering.{Ordering}
use Rattle.std.proofs.lemmas.Bool.Decides.{nat_tests}

pub first_at_most : (m n : ℕ) (o : Ordering) → is_le (ordering_then (nat_cmp m n) o) ≡ true → m ≤ n
first_at_most m n o e = grind (arith, nat_tests)

pub first_at_least : (m n : ℕ) (o : Ordering) → is_le (ordering_then (nat_cmp m n) o) ≡ false → n ≤ m
first_at_least m n o e = grind (arith, nat_tests)
