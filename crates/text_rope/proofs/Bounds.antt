-- Sums of steps.
use Rattle.std.proofs.Common.{◌≡◌, ℕ, ◌+◌, ◌-◌, ◌*◌, ◌/◌, ◌<◌, ◌≤◌, List, [], length, get_or, ap, ◌∙◌, arith}
use Rattle.std.proofs.Math.Nat.{add-mul, mul_assoc, one-mul}
use Rattle.std.proofs.lemmas.List.Elements.{All-get_or}
use Rattle.std.proofs.lemmas.Nat.{mul-le}
use Rattle.sum_tree.specs.Bounds as trees
use Rattle.text_rope.specs.Chunks.{AreFull, least}

-- one turn more
pub one_turn : (at first x s0 s1 s2 : ℕ) → first ≤ at → s1 ≤ s0 + (at - first) * x → s2 ≤ s1 + x → s2 ≤ s0 + (at + 1 - first) * x
one_turn at first x s0 s1 s2 order so_far more =
    let turns : at + 1 - first ≡ at - first + 1 = omega (arith, order) in
    omega (arith, so_far, more, ap (λ (n : ℕ). n * x) turns, add-mul (at - first) 1 x, one-mul x)

pub turns_within : (n m x s0 s1 : ℕ) → n ≤ m → s1 ≤ s0 + n * x → s1 ≤ s0 + m * x
turns_within n m x s0 s1 le so_far = omega (arith, so_far, mul-le n x m x le (omega arith))

-- a turn gathers the bytes of a chunk after another one, which isn't short
pub turns_few : (chunks : List (List ℕ)) (at first k n m : ℕ) → AreFull chunks → at < length chunks → 0 < first → first ≤ at → 60 * (at - first) + k ≤ n → m ≡ length (get_or chunks at []) → 60 * (at + 1 - first) + k ≤ n + m
turns_few chunks at first k n m full within some order few e =
    let more : 1 < length chunks = omega (arith, within, some, order) in
    omega (arith, few, order, e, All-get_or (λ (c : List ℕ). least ≤ length c) chunks at [] within (full more))

-- a way to the first chunk of a slice. And one for each 60 of the bytes after that, and for what is left of them
pub slice_steps : (n more h s0 s1 s2 : ℕ) → more ≤ n → s1 ≤ s0 + (h + 1) → s2 ≤ s1 + (more / 60 + 1) * (h + 1) → s2 ≤ s0 + 3 * (n / 64 + 1) * (h + 1)
slice_steps n more h s0 s1 s2 le first then =
    let x = h + 1 in
    let turns : more / 60 + 2 ≤ 3 * (n / 64 + 1) = omega (arith, le) in
    let most : (more / 60 + 2) * x ≤ 3 * (n / 64 + 1) * x = mul-le (more / 60 + 2) x (3 * (n / 64 + 1)) x turns (omega arith) in
    let split : (more / 60 + 2) * x ≡ (more / 60 + 1) * x + x = ap (λ (k : ℕ). k * x) (omega arith) ∙ add-mul (more / 60 + 1) 1 x ∙ ap (λ (k : ℕ). (more / 60 + 1) * x + k) (one-mul x) in
    omega (arith, first, then, most, split)

-- a turn for each chunk that is made, of which there are few
pub replace_steps : (n k h s0 s1 s2 : ℕ) → 60 * k ≤ n + 572 → s1 ≤ s0 + 6 * (h + 1) → s2 ≤ s1 + trees.replacing k h → s2 ≤ s0 + 166 * (n / 64 + 1) * (h + 1)
replace_steps n k h s0 s1 s2 few first second =
    let p = (n / 64 + 1) * (h + 1) in
    let high : 1 * (h + 1) ≤ p = mul-le 1 (h + 1) (n / 64 + 1) (h + 1) (omega arith) (omega arith) in
    let long : (n / 64 + 1) * 1 ≤ p = mul-le (n / 64 + 1) 1 (n / 64 + 1) (h + 1) (omega arith) (omega arith) in
    let whole : 166 * (n / 64 + 1) * (h + 1) ≡ 166 * p = mul_assoc 166 (n / 64 + 1) (h + 1) in
    omega (arith, few, first, second, high, long, whole)
