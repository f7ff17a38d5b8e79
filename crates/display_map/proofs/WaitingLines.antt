-- Which lines wait, line by line.
use Rattle.std.proofs.Common.{◌≡◌, ℕ, ◌+◌, ◌<◌, ◌≤◌, ◌⊎◌, inl, inr, min, zero, suc, cond, Bool, true, false, List, [], ◌∷◌, length, take, get_or, ap, ◌∙◌, arith}
use Rattle.std.specs.List.{prefix_len}

-- a prefix ends where a test fails, or with the list
pub prefix_at : {X : Type 0} (p : X → Bool) (xs : List X) (n : ℕ) (d : X) → n ≤ length xs → ((k : ℕ) → k < n → p (get_or xs k d) ≡ true) →
    (n ≡ length xs) ⊎ (p (get_or xs n d) ≡ false) → prefix_len p xs ≡ n
prefix_at p [] n d le before here = omega arith
prefix_at p (x ∷ xs) zero d le before (inl e) = absurd (omega arith)
prefix_at p (x ∷ xs) zero d le before (inr e) = ap (λ (b : Bool). cond b (1 + prefix_len p xs) 0) e
prefix_at p (x ∷ xs) (suc n) d le before here =
    ap (λ (b : Bool). cond b (1 + prefix_len p xs) 0) (before 0 (omega arith))
    ∙ omega (arith, prefix_at p xs n d (omega arith) (λ k lt. before (suc k) (omega arith)) (behind here)) where
      behind : (suc n ≡ suc (length xs)) ⊎ (p (get_or xs n d) ≡ false) → (n ≡ length xs) ⊎ (p (get_or xs n d) ≡ false)
      behind (inl e) = inl (omega arith)
      behind (inr e) = inr e

pub prefix-take : {X : Type 0} (p : X → Bool) (n : ℕ) (xs : List X) → prefix_len p (take n xs) ≡ min n (prefix_len p xs)
prefix-take p zero xs = omega arith
prefix-take p (suc n) [] = omega arith
prefix-take p (suc n) (x ∷ xs) = go (p x) (prefix-take p n xs) where
  go : (b : Bool) → prefix_len p (take n xs) ≡ min n (prefix_len p xs) → cond b (1 + prefix_len p (take n xs)) 0 ≡ min (suc n) (cond b (1 + prefix_len p xs) 0)
  go true e = omega arith
  go false e = omega arith
