-- Some of all rows, one after the other.
use Rattle.std.proofs.Common.{◌≡◌, ℕ, zero, suc, ◌+◌, List, [], ◌∷◌, ◌++◌, Some, take, drop, sym, ap, ◌∙◌, arith, add-one}
use Rattle.std.proofs.Math.Seq.{take-add}
use Rattle.std.proofs.lemmas.List.{drop-drop}
use Rattle.std.specs.List.{slice_get}

module _ {X : Type 0} where
  -- the next one
  pub window-more : (xs : List X) (first n : ℕ) (x : X) → slice_get xs (first + n) ≡ Some x → take (n + 1) (drop first xs) ≡ take n (drop first xs) ++ x ∷ []
  window-more [] first n x is = absurd (none (first + n) is) where
    none : (k : ℕ) → slice_get [] k ≡ Some x → ⊥
    none zero e = cc
    none (suc k) e = cc
  window-more (y ∷ ys) zero n x is = ap (λ (k : ℕ). take k (y ∷ ys)) (add-one n) ∙ front (y ∷ ys) n (let e : 0 + n ≡ n = omega arith in sym (ap (slice_get (y ∷ ys)) e) ∙ is) where
    front : (zs : List X) (n : ℕ) → slice_get zs n ≡ Some x → take (suc n) zs ≡ take n zs ++ x ∷ []
    front [] zero e = absurd (cc)
    front [] (suc n) e = absurd (cc)
    front (z ∷ zs) zero e = let f : z ≡ x = cc in ap (λ w. w ∷ []) f
    front (z ∷ zs) (suc n) e = ap (λ (l : List X). z ∷ l) (front zs n e)
  window-more (y ∷ ys) (suc first) n x is = window-more ys first n x (let e : suc first + n ≡ suc (first + n) = omega arith in sym (ap (slice_get (y ∷ ys)) e) ∙ is)

  -- one window after another
  pub window-join : (xs : List X) (first m n : ℕ) → take (m + n) (drop first xs) ≡ take m (drop first xs) ++ take n (drop (first + m) xs)
  window-join xs first m n = take-add m n (drop first xs) ∙ ap (λ (l : List X). take m (drop first xs) ++ take n l) (drop-drop m first xs)

  -- the first one, and those after it
  pub window-cons : (xs : List X) (first n : ℕ) (x : X) → slice_get xs first ≡ Some x → take (suc n) (drop first xs) ≡ x ∷ take n (drop (first + 1) xs)
  window-cons xs first n x is = go xs first is ∙ ap (λ (k : ℕ). x ∷ take n (drop k xs)) (sym (add-one first)) where
    go : (xs : List X) (first : ℕ) → slice_get xs first ≡ Some x → take (suc n) (drop first xs) ≡ x ∷ take n (drop (suc first) xs)
    go [] zero e = absurd (cc)
    go [] (suc first) e = absurd (cc)
    go (y ∷ ys) zero e = let f : y ≡ x = cc in ap (λ z. z ∷ take n ys) f
    go (y ∷ ys) (suc first) e = go ys first e
