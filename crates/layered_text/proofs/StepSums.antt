-- Sums of steps.
use Rattle.std.proofs.Common.{ℕ, ◌+◌, ◌*◌, ◌≤◌, max, arith, mul-le-mul_right}

pub both-most : (m n : ℕ) → m + n ≤ 2 * max m n
both-most m n = omega arith

-- i inlays are moved, and k folds moved or joined anew
pub shown-steps : (i k n h a b c : ℕ) → i + k ≤ n → b ≤ a + 339 * (i + 1) * (h + 1) → c ≤ b + 504 * (k + 1) * (h + 1) → c ≤ a + (504 * n + 843) * (h + 1)
shown-steps i k n h a b c few first second = omega (arith, first, second, mul-le-mul_right (h + 1) few)

-- w pieces of a text are made, and n entries are shown anew
pub replaced-steps : (w chunks n most h a b c : ℕ) → w ≤ chunks → n ≤ 2 * most → b ≤ a + 166 * (w + 1) * (h + 1) → c ≤ b + (504 * n + 843) * (h + 1)
    → c ≤ a + (0 + 1400 * (chunks + most + 1) * (h + 1))
replaced-steps w chunks n most h a b c short few first second =
    omega (arith, first, second, mul-le-mul_right (h + 1) short, mul-le-mul_right (h + 1) few)

-- an entry is judged, with a search among m
pub judged-steps : (m most h a b : ℕ) → 5 * b ≤ 5 * a + (m + 5 * (2 * (h + 1))) → b ≤ a + (m + 1400 * (most + 1) * (h + 1))
judged-steps m most h a b first = omega (arith, first)

-- then an inlay is added or removed, with another search, and n entries are shown anew
pub inlay-steps : (m n most h a b c d : ℕ) → n ≤ 2 * most → 5 * b ≤ 5 * a + (m + 5 * (2 * (h + 1))) → 5 * c ≤ 5 * b + (m + 5 * (529 * (h + 1)))
    → d ≤ c + (504 * n + 843) * (h + 1) → d ≤ a + (m + 1400 * (most + 1) * (h + 1))
inlay-steps m n most h a b c d few first second third = omega (arith, first, second, third, mul-le-mul_right (h + 1) few)

-- or a fold, with two more, and the k folds that it meets are joined anew
pub fold-steps : (m k most h a b c d : ℕ) → k ≤ most → 5 * b ≤ 5 * a + (m + 5 * (2 * (h + 1))) → 5 * c ≤ 5 * b + (2 * m + 5 * (463 * (k + 1) * (h + 1)))
    → d ≤ c + (504 * 0 + 843) * (h + 1) → d ≤ a + (m + 1400 * (most + 1) * (h + 1))
fold-steps m k most h a b c d few first second third = omega (arith, first, second, third, mul-le-mul_right (h + 1) few)
