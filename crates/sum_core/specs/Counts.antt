-- The laws of a count of 64 bits, for sums that are made of counts.
use Rattle.std.specs.Prelude.{◌≡◌, ℕ, ◌+◌, ◌<◌, ◌^◌, refl}
use Rattle.std.proofs.Common.{zero-add, add-zero, add_assoc, lt_of_le_of_lt, le-add_left, le-add_right}
use borrow.Author.Tests.{ltb-true}

pub count-left_identity : (n : ℕ) → 0 + n ≡ n
count-left_identity n = zero-add n

pub count-right_identity : (n : ℕ) → n + 0 ≡ n
count-right_identity n = add-zero n

pub count-assoc : (m n k : ℕ) → (m + n) + k ≡ m + (n + k)
count-assoc m n k = add_assoc m n k

pub count-empty_fits : 0 < 2 ^ 64
count-empty_fits = ltb-true 0 (2 ^ 64) refl

pub count-left_fits : (m n : ℕ) → m + n < 2 ^ 64 → m < 2 ^ 64
count-left_fits m n lt = lt_of_le_of_lt (le-add_right m n) lt

pub count-right_fits : (m n : ℕ) → m + n < 2 ^ 64 → n < 2 ^ 64
count-right_fits m n lt = lt_of_le_of_lt (le-add_left n m) lt
