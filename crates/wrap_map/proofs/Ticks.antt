-- Sums of steps.
use Rattle.std.proofs.Common.{◌≡◌, ℕ, ◌+◌, ◌*◌, ◌<◌, ◌≤◌, ◌^◌, List, length, ap, arith}
use Rattle.std.specs.Prelude.{All}
use Rattle.std.proofs.Math.Nat.{add-mul}
use Rattle.std.proofs.lemmas.Nat.{mul-le}
use Rattle.sum_tree.specs.Bounds.{ChangesAtMost, TakesAtMost, replacing, way}
use Rattle.wrap_map.specs.inside.Bounds.{putting, two_ways}
use Rattle.wrap_map.specs.inside.Stretches.{IsStretch, Stretched, spread}
use Rattle.wrap_map.proofs.Spreads.{few-stretches}

-- there are no more stretches than lines
pub by-lines : (cost : ℕ → ℕ) (ss : List Stretched) (old new : ℕ) → All IsStretch ss → TakesAtMost cost (length ss) old new → TakesAtMost cost (length (spread ss)) old new
by-lines cost ss old new each takes = λ h small. takes h (omega (arith, few-stretches ss each))

pub two-seeks : (ss : List Stretched) (s0 s1 s2 : ℕ) → All IsStretch ss → TakesAtMost way (length ss) s0 s1 → TakesAtMost way (length ss) s1 s2 → TakesAtMost two_ways (length (spread ss)) s0 s2
two-seeks ss s0 s1 s2 each first second = λ h small.
    let few : length ss < 2 * 6 ^ (h + 1) = omega (arith, few-stretches ss each) in
    omega (arith, first h few, second h few)

pub one-seek : (ss : List Stretched) (s0 s1 : ℕ) → All IsStretch ss → TakesAtMost way (length ss) s0 s1 → TakesAtMost two_ways (length (spread ss)) s0 s1
one-seek ss s0 s1 each first = λ h small.
    let few : length ss < 2 * 6 ^ (h + 1) = omega (arith, few-stretches ss each) in
    omega (arith, first h few)

pub put-ticks : (ss new : List Stretched) (k m n s0 s1 s2 s3 : ℕ) → All IsStretch ss → length new ≤ n → m ≤ k + 2
    → TakesAtMost way (length ss) s0 s1 → TakesAtMost way (length ss) s1 s2 → ChangesAtMost (replacing m) (length ss) (length new) s2 s3
    → ChangesAtMost (putting k) (length (spread ss)) n s0 s3
put-ticks ss new k m n s0 s1 s2 s3 each fewer few first second third = λ h small after.
    let before : length ss < 2 * 6 ^ (h + 1) = omega (arith, few-stretches ss each) in
    let behind : length new < 2 * 6 ^ (h + 1) = omega arith in
    omega (arith, few, first h before, second h before, third h before behind)

-- one run more takes five seeks more
pub one-turn : (k w s0 s1 s2 : ℕ) → s1 ≤ s0 + 5 * k * w → s2 ≤ s1 + 5 * w → s2 ≤ s0 + 5 * (k + 1) * w
one-turn k w s0 s1 s2 before more =
    let five : 5 * (k + 1) ≡ 5 * k + 5 = omega arith in
    omega (arith, before, more, ap (λ (n : ℕ). n * w) five, add-mul (5 * k) 5 w)

-- the seeks before a replacement
pub put-first : (ss : List Stretched) (k n s0 s1 : ℕ) → All IsStretch ss → TakesAtMost way (length ss) s0 s1 → ChangesAtMost (putting k) (length (spread ss)) n s0 s1
put-first ss k n s0 s1 each first = λ h small after.
    let before : length ss < 2 * 6 ^ (h + 1) = omega (arith, few-stretches ss each) in
    omega (arith, first h before)

pub put-second : (ss : List Stretched) (k n s0 s1 s2 : ℕ) → All IsStretch ss → TakesAtMost way (length ss) s0 s1 → TakesAtMost way (length ss) s1 s2 → ChangesAtMost (putting k) (length (spread ss)) n s0 s2
put-second ss k n s0 s1 s2 each first second = λ h small after.
    let before : length ss < 2 * 6 ^ (h + 1) = omega (arith, few-stretches ss each) in
    omega (arith, first h before, second h before)

-- a seek for each line that was passed, and the first one
pub seeks-more : (n m w s0 s1 s2 : ℕ) → s1 ≤ s0 + n * w → s2 ≤ s1 + w → n + 1 ≤ m → s2 ≤ s0 + m * w
seeks-more n m w s0 s1 s2 before more le = let h = mul-le (n + 1) w m w le (omega arith) in omega (arith, before, more, h, add-mul n 1 w)

pub seeks-within : (n m w s0 s1 : ℕ) → n ≤ m → s1 ≤ s0 + n * w → s1 ≤ s0 + m * w
seeks-within n m w s0 s1 le before = omega (arith, before, mul-le n w m w le (omega arith))
