-- Sums of steps.
use Rattle.std.proofs.Common.{◌≡◌, ℕ, ◌+◌, ◌*◌, ◌≤◌, sym, ap, ◌∙◌, arith}
use Rattle.std.proofs.Math.Nat.{add-mul, mul_assoc, mul_comm, one-mul}
use Rattle.std.proofs.lemmas.Nat.{mul-le}
use Rattle.splice_tree.specs.Bounds.{splicing}

-- so many of k + 1 things at each of h + 1 levels, with the numbers in either order
module _ (n k h : ℕ) where
  abbrev pub each : ℕ
  each = (k + 1) * (h + 1)

  pub whole : n * (k + 1) * (h + 1) ≡ n * each
  whole = mul_assoc n (k + 1) (h + 1)

  pub turned : n * (h + 1) * (k + 1) ≡ n * each
  turned = mul_assoc n (h + 1) (k + 1) ∙ ap (λ m. n * m) (mul_comm (h + 1) (k + 1))

pub high : (k h : ℕ) → h + 1 ≤ (k + 1) * (h + 1)
high k h = let l = mul-le 1 (h + 1) (k + 1) (h + 1) (omega arith) (omega arith) in omega (arith, l, one-mul (h + 1))

pub long : (k h : ℕ) → k + 1 ≤ (k + 1) * (h + 1)
long k h = let l = mul-le (k + 1) 1 (k + 1) (h + 1) (omega arith) (omega arith) in omega (arith, l)

-- k folds are found, and m splices put in place
pub rejoined-steps : (k m h a b c d e : ℕ) → m ≤ k + 1 → b ≤ a + 2 * (h + 1) → c ≤ b + 82 * (h + 1) * (k + 1) → d ≤ c + (h + 1) → e ≤ d + splicing m h → e ≤ a + 250 * (k + 1) * (h + 1)
rejoined-steps k m h a b c d e few first second third fourth =
    omega (arith, few, first, second, third, fourth, whole 250 k h, turned 82 k h, high k h, long k h)

-- one fold is sought and taken or put, and k folds are joined anew
pub refolded-steps : (k n h a b c : ℕ) → 5 * b ≤ 5 * a + (n + 5 * (200 * (h + 1))) → c ≤ b + 250 * (k + 1) * (h + 1) → 5 * c ≤ 5 * a + (n + 5 * (450 * (k + 1) * (h + 1)))
refolded-steps k n h a b c first second = omega (arith, first, second, whole 250 k h, whole 450 k h, high k h)

-- one of m folds was sought before, and at most twelve places are looked up after it
pub folded-steps : (k m n h a b c d : ℕ) → m ≤ n → 5 * b ≤ 5 * a + (m + 5) → 5 * c ≤ 5 * b + (n + 5 * (450 * (k + 1) * (h + 1))) → d ≤ c + 12 * (h + 1)
    → 5 * d ≤ 5 * a + (2 * n + 5 * (463 * (k + 1) * (h + 1)))
folded-steps k m n h a b c d few first second third = omega (arith, few, first, second, third, whole 450 k h, whole 463 k h, high k h)

-- t folds are moved, m joined anew, and four places looked up
pub synced-steps : (t m h a b c d : ℕ) → b ≤ a + 250 * (h + 1) * (t + 1) → c ≤ b + 250 * (m + 1) * (h + 1) → d ≤ c + 4 * (h + 1) → d ≤ a + 504 * (t + m + 1) * (h + 1)
synced-steps t m h a b c d first second third =
    let both : (t + m + 1) * (h + 1) + (h + 1) ≡ (t + 1) * (h + 1) + (m + 1) * (h + 1) = sym (ap (λ n. (t + m + 1) * (h + 1) + n) (one-mul (h + 1)))
    ∙ sym (add-mul (t + m + 1) 1 (h + 1)) ∙ ap (λ n. n * (h + 1)) (omega arith) ∙ add-mul (t + 1) (m + 1) (h + 1) in
    omega (arith, first, second, third, both, turned 250 t h, whole 250 m h, whole 504 (t + m) h, high (t + m) h)
