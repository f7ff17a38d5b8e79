-- Elements of lists that are joined or filtered, by their numbers.
use Rattle.std.proofs.Common.{◌≡◌, ℕ, ◌+◌, ◌-◌, ◌<◌, ◌≤◌, ◌&&◌, zero, suc, Bool, true, false, cond, List, [], ◌∷◌, ◌++◌, length, take, drop, filter, flat_map, get_or, refl, sym, ap, subst, ◌∙◌, arith, length-append}
use Rattle.std.specs.Prelude.{Some, slice_get}
use Rattle.std.proofs.lemmas.Option.{none-some, same_Some}

module _ {X : Type 0} where
  pub append-left : (xs ys : List X) (k : ℕ) → k < length xs → slice_get (xs ++ ys) k ≡ slice_get xs k
  append-left [] ys k lt = absurd (omega (arith, lt))
  append-left (x ∷ xs) ys zero lt = refl
  append-left (x ∷ xs) ys (suc k) lt = append-left xs ys k (omega (arith, lt))

  pub append-right : (xs ys : List X) (k : ℕ) → slice_get (xs ++ ys) (length xs + k) ≡ slice_get ys k
  append-right [] ys k = let e : 0 + k ≡ k = omega arith in ap (slice_get ys) e
  append-right (x ∷ xs) ys k =
      let e : length (x ∷ xs) + k ≡ suc (length xs + k) = omega arith in
      ap (slice_get (x ∷ (xs ++ ys))) e ∙ append-right xs ys k

  -- past the first list
  pub append-past : (xs ys : List X) (k : ℕ) → length xs ≤ k → slice_get (xs ++ ys) k ≡ slice_get ys (k - length xs)
  append-past xs ys k le =
      let e : k ≡ length xs + (k - length xs) = omega (arith, le) in
      ap (slice_get (xs ++ ys)) e ∙ append-right xs ys (k - length xs)

  pub drop-at : (n : ℕ) (xs : List X) (k : ℕ) → slice_get (drop n xs) k ≡ slice_get xs (n + k)
  drop-at zero xs k = let e : k ≡ 0 + k = omega arith in ap (slice_get xs) e
  drop-at (suc n) [] k = refl
  drop-at (suc n) (x ∷ xs) k =
      let e : suc (n + k) ≡ suc n + k = omega arith in
      drop-at n xs k ∙ ap (slice_get (x ∷ xs)) e

  -- in one of many lists
  pub flat-at : (ls : List (List X)) (n k : ℕ) → n < length ls → k < length (get_or ls n []) →
      slice_get (flat_map (λ l. l) ls) (length (flat_map (λ l. l) (take n ls)) + k) ≡ slice_get (get_or ls n []) k
  flat-at [] n k lt within = absurd (omega (arith, lt))
  flat-at (l ∷ ls) zero k lt within =
      let e : 0 + k ≡ k = omega arith in
      ap (slice_get (l ++ flat_map (λ l. l) ls)) e ∙ append-left l (flat_map (λ l. l) ls) k within
  flat-at (l ∷ ls) (suc n) k lt within =
      let before = flat_map (λ (l : List X). l) (take n ls) in
      let e : length (l ++ before) + k ≡ length l + (length before + k) = omega (arith, length-append l before) in
      ap (slice_get (l ++ flat_map (λ l. l) ls)) e
      ∙ append-right l (flat_map (λ l. l) ls) (length before + k)
      ∙ flat-at ls n k (omega (arith, lt)) within

  -- two tests in turn
  pub filter-both : (p q : X → Bool) (xs : List X) → filter (λ x. p x && q x) xs ≡ filter q (filter p xs)
  filter-both p q [] = refl
  filter-both p q (x ∷ xs) = go (p x) (filter-both p q xs) where
    both : List X
    both = filter (λ x. p x && q x) xs

    go : (a : Bool) → both ≡ filter q (filter p xs) → cond (a && q x) (x ∷ both) both ≡ filter q (cond a (x ∷ filter p xs) (filter p xs))
    go true h = λ i. cond (q x) (x ∷ h i) (h i)
    go false h = h

module _ {X : Type 0} (p : X → Bool) where
  -- what is kept is one of the list, and passes
  pub kept-at : (xs : List X) (k : ℕ) (x d : X) → slice_get (filter p xs) k ≡ Some x → (m : ℕ) × (m < length xs) × (get_or xs m d ≡ x) × (p x ≡ true)
  kept-at [] k x d e = absurd (none-some x e)
  kept-at (y ∷ ys) k x d e = go (p y) refl k e (λ k e. kept-at ys k x d e) where
    go : (b : Bool) → p y ≡ b → (k : ℕ) → slice_get (cond b (y ∷ filter p ys) (filter p ys)) k ≡ Some x →
        ((k : ℕ) → slice_get (filter p ys) k ≡ Some x → (m : ℕ) × (m < length ys) × (get_or ys m d ≡ x) × (p x ≡ true)) →
        (m : ℕ) × (m < length (y ∷ ys)) × (get_or (y ∷ ys) m d ≡ x) × (p x ≡ true)
    go true on zero e later = let same = same_Some y x e in (0, omega arith, same, ap p (sym same) ∙ on)
    go true on (suc k) e later = let m = later k e in (suc m.0, omega (arith, m.1), m.2, m.3)
    go false off k e later = let m = later k e in (suc m.0, omega (arith, m.1), m.2, m.3)

  -- what holds of each two of the list that pass holds of those that are kept
  pub kept-pairs : (R : X → X → Type 0) (d : X) (xs : List X) → ((i j : ℕ) → i < j → j < length xs → p (get_or xs i d) ≡ true → p (get_or xs j d) ≡ true → R (get_or xs i d) (get_or xs j d)) →
      (i j : ℕ) (x y : X) → i < j → slice_get (filter p xs) i ≡ Some x → slice_get (filter p xs) j ≡ Some y → R x y
  kept-pairs R d [] pairs i j x y lt e f = absurd (none-some x e)
  kept-pairs R d (z ∷ zs) pairs i j x y lt e f =
      go (p z) refl i j lt e f
      (λ i j lt e f. kept-pairs R d zs (λ i j lt within a b. pairs (suc i) (suc j) (omega (arith, lt)) (omega (arith, within)) a b) i j x y lt e f) where
        first : p z ≡ true → (j : ℕ) → Some z ≡ Some x → slice_get (filter p zs) j ≡ Some y → R x y
        first on j e f =
            let at = kept-at zs j y d f in
            let passes : p (get_or zs at.0 d) ≡ true = ap p at.2 ∙ at.3 in
            subst (λ (w : X). R x w) at.2
            (subst (λ (w : X). R w (get_or zs at.0 d)) (same_Some z x e)
            (pairs 0 (suc at.0) (omega arith) (omega (arith, at.1)) on passes))

        go : (b : Bool) → p z ≡ b → (i j : ℕ) → i < j → slice_get (cond b (z ∷ filter p zs) (filter p zs)) i ≡ Some x → slice_get (cond b (z ∷ filter p zs) (filter p zs)) j ≡ Some y →
            ((i j : ℕ) → i < j → slice_get (filter p zs) i ≡ Some x → slice_get (filter p zs) j ≡ Some y → R x y) → R x y
        go true on zero zero lt e f later = absurd (omega (arith, lt))
        go true on zero (suc j) lt e f later = first on j e f
        go true on (suc i) zero lt e f later = absurd (omega (arith, lt))
        go true on (suc i) (suc j) lt e f later = later i j (omega (arith, lt)) e f
        go false off i j lt e f later = later i j lt e f

  -- nothing is kept where nothing passes
  pub none-kept : (xs : List X) → ((k : ℕ) (x : X) → slice_get xs k ≡ Some x → p x ≡ false) → filter p xs ≡ []
  none-kept [] none = refl
  none-kept (x ∷ xs) none =
      ap (λ (b : Bool). cond b (x ∷ filter p xs) (filter p xs)) (none 0 x refl)
      ∙ none-kept xs (λ k y e. none (suc k) y e)
