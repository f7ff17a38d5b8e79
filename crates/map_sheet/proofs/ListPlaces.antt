-- The places in a list of the elements that pass a test.
use Rattle.std.proofs.Common.{◌≡◌, ℕ, zero, suc, ◌+◌, Bool, true, false, cond, Contains, List, [], ◌∷◌, count_by, length, Some, refl, sym, ap, subst, ◌∙◌, arith}
use Rattle.std.specs.List.{slice_get}
use Rattle.std.proofs.lemmas.List.Sums.{sum_by-cons}

module _ {X : Type 0} (p : X → Bool) where
  -- counted from a number on
  abbrev pub places_from : ℕ → List X → List ℕ
  places_from n [] = []
  places_from n (x ∷ xs) = cond (p x) (n ∷ places_from (n + 1) xs) (places_from (n + 1) xs)

  counted : (x : X) (xs : List X) → count_by p (x ∷ xs) ≡ cond (p x) 1 0 + count_by p xs
  counted x xs = sum_by-cons (λ (y : X). cond (p y) 1 0) x xs

  pub length-places : (n : ℕ) (xs : List X) → length (places_from n xs) ≡ count_by p xs
  length-places n [] = refl
  length-places n (x ∷ xs) = go (p x) (length-places (n + 1) xs) ∙ sym (counted x xs) where
    go : (c : Bool) → length (places_from (n + 1) xs) ≡ count_by p xs
        → length (cond c (n ∷ places_from (n + 1) xs) (places_from (n + 1) xs)) ≡ cond c 1 0 + count_by p xs
    go true rest = omega (arith, rest)
    go false rest = omega (arith, rest)

  has-more : (c : Bool) (n k : ℕ) (ns : List ℕ) → Contains ns k → Contains (cond c (n ∷ ns) ns) k
  has-more true n k ns has = (suc has.0, omega (arith, has.1), has.2)
  has-more false n k ns has = has

  pub has-place : (n : ℕ) (xs : List X) (k : ℕ) (x : X) → slice_get xs k ≡ Some x → p x ≡ true → Contains (places_from n xs) (n + k)
  has-place n [] k x at passes = absurd (cc)
  has-place n (y ∷ ys) zero x at passes =
      let same : y ≡ x = cc in
      let here : p y ≡ true = ap p same ∙ passes in
      subst (λ (c : Bool). Contains (cond c (n ∷ places_from (n + 1) ys) (places_from (n + 1) ys)) (n + 0)) (sym here)
      (0, omega arith, omega arith)
  has-place n (y ∷ ys) (suc k) x at passes =
      let next : n + 1 + k ≡ n + suc k = omega arith in
      has-more (p y) n (n + suc k) (places_from (n + 1) ys)
      (subst (Contains (places_from (n + 1) ys)) next (has-place (n + 1) ys k x at passes))
