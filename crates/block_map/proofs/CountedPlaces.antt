-- Places that rise are no more than those of any list that has them all.
use Rattle.std.proofs.Common.{◌≡◌, ℕ, suc, ◌+◌, ◌≤◌, Bool, true, false, cond, eqb, eqb-true, eq-eqb, List, [], ◌∷◌, Some, length, refl, sym, ap, subst, ◌∙◌, arith, inl, inr, ◌⊎◌}
use Rattle.std.specs.List.{count_by, slice_get}
use Rattle.mark_tree.proofs.Sorting.{Member, count-cons}
use Rattle.block_map.specs.inside.Without.{IsRising}
use Rattle.block_map.proofs.LeftOut.{not-member}

-- the places but one
abbrev others : ℕ → List ℕ → List ℕ
others a [] = []
others a (p ∷ ps) = cond (eqb p a) (others a ps) (p ∷ others a ps)

others-le : (a : ℕ) (ps : List ℕ) → length (others a ps) ≤ length ps
others-le a [] = omega arith
others-le a (p ∷ ps) = go (eqb p a) (others-le a ps) where
  go : (b : Bool) → length (others a ps) ≤ length ps → length (cond b (others a ps) (p ∷ others a ps)) ≤ length (p ∷ ps)
  go true r = omega (arith, r)
  go false r = omega (arith, r)

-- where the list has it
others-less : (a : ℕ) (ps : List ℕ) → Member a ps → length (others a ps) + 1 ≤ length ps
others-less a [] m = absurd m
others-less a (p ∷ ps) (inl e) = omega (arith, ap (λ (b : Bool). length (cond b (others a ps) (p ∷ others a ps))) (eq-eqb p a e), others-le a ps)
others-less a (p ∷ ps) (inr m) = go (eqb p a) (others-less a ps m) where
  go : (b : Bool) → length (others a ps) + 1 ≤ length ps → length (cond b (others a ps) (p ∷ others a ps)) + 1 ≤ length (p ∷ ps)
  go true r = omega (arith, r)
  go false r = omega (arith, r)

others-keep : (a b : ℕ) (ps : List ℕ) → (b ≡ a → ⊥) → Member b ps → Member b (others a ps)
others-keep a b [] out m = m
others-keep a b (p ∷ ps) out m = go (eqb p a) refl m (others-keep a b ps out) where
  go : (c : Bool) → eqb p a ≡ c → (p ≡ b) ⊎ Member b ps → (Member b ps → Member b (others a ps)) → Member b (cond c (others a ps) (p ∷ others a ps))
  go true is (inl e) r = absurd (out (sym e ∙ eqb-true p a is))
  go true is (inr m) r = r m
  go false is (inl e) r = inl e
  go false is (inr m) r = inr (r m)

pub rising-within : (from : ℕ) (places ps : List ℕ) → IsRising from places → ((k : ℕ) → Member k places → Member k ps) → length places ≤ length ps
rising-within from [] ps r all = omega arith
rising-within from (a ∷ bs) ps r all =
    let rest = rising-within (a + 1) bs (others a ps) r.1 (λ k m. others-keep a k ps (λ e. not-member (a + 1) k bs r.1 (omega (arith, e)) m) (all k (inr m))) in
    omega (arith, others-less a ps (all a (inl refl)), rest)

abbrev one : Bool → ℕ
one b = cond b 1 0

pub count-within : {X : Type 0} (p : X → Bool) (xs : List X) (at : ℕ) (ps : List ℕ) → ((k : ℕ) (x : X) → slice_get xs k ≡ Some x → p x ≡ true → Member (at + k) ps) → count_by p xs ≤ length ps
count-within p [] at ps all = omega (arith)
count-within {X = X} p (x ∷ xs) at ps all = go (p x) refl (count-within p xs (at + 1)) where
  later : (k : ℕ) (qs : List ℕ) → Member (at + suc k) qs → Member (at + 1 + k) qs
  later k qs m = let same : at + suc k ≡ at + 1 + k = omega arith in subst (λ (n : ℕ). Member n qs) same m

  go : (b : Bool) → p x ≡ b → ((qs : List ℕ) → ((k : ℕ) (y : X) → slice_get xs k ≡ Some y → p y ≡ true → Member (at + 1 + k) qs) → count_by p xs ≤ length qs) → count_by p (x ∷ xs) ≤ length ps
  go true is rest =
      let here : Member at ps = subst (λ (n : ℕ). Member n ps) (let e : at + 0 ≡ at = omega arith in e) (all 0 x refl is) in
      let left = rest (others at ps) (λ k y e t. others-keep at (at + 1 + k) ps (λ f. absurd (omega (arith, f))) (later k ps (all (suc k) y e t))) in
      omega (arith, count-cons p x xs, ap one is, others-less at ps here, left)
  go false is rest =
      let left = rest ps (λ k y e t. later k ps (all (suc k) y e t)) in
      omega (arith, count-cons p x xs, ap one is, left)
