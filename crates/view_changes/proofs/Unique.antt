-- Lists of which at most one element passes a test.
use Rattle.std.proofs.Common.{◌≡◌, ℕ, ◌+◌, ◌<◌, ◌≤◌, ◌&&◌, not, zero, suc, Bool, true, false, cond, List, [], ◌∷◌, ◌++◌, length, filter, get_or, refl, sym, ap, ◌∙◌, arith, length-append}
use Rattle.std.specs.Prelude.{Some, None}
use Rattle.std.specs.List.{find}
use Rattle.std.proofs.lemmas.List.{nil_from_length}
use Rattle.std.proofs.lemmas.List.Elements.{filter-append}
use Rattle.std.proofs.lemmas.Option.{none-some}
use Rattle.cell_units.specs.Sorting.{insert_by}
use Rattle.view_pieces.proofs.Lists.{filter-both}

module _ {X : Type 0} where
  both-swapped : (p q : X → Bool) (xs : List X) → filter (λ x. p x && q x) xs ≡ filter (λ x. q x && p x) xs
  both-swapped p q [] = refl
  both-swapped p q (x ∷ xs) = λ i. cond (swapped (p x) (q x) i) (x ∷ both-swapped p q xs i) (both-swapped p q xs i) where
    swapped : (a b : Bool) → (a && b) ≡ (b && a)
    swapped true true = refl
    swapped true false = refl
    swapped false true = refl
    swapped false false = refl

  pub filter-swapped : (p q : X → Bool) (xs : List X) → filter q (filter p xs) ≡ filter p (filter q xs)
  filter-swapped p q xs = sym (filter-both p q xs) ∙ both-swapped p q xs ∙ filter-both q p xs

module _ {X : Type 0} (p : X → Bool) where
  -- all are kept by the other test where none passes
  pub others-all : (xs : List X) → filter p xs ≡ [] → filter (λ x. not (p x)) xs ≡ xs
  others-all [] h = refl
  others-all (x ∷ xs) h = go (p x) h (others-all xs) where
    go : (b : Bool) → cond b (x ∷ filter p xs) (filter p xs) ≡ [] → (filter p xs ≡ [] → filter (λ x. not (p x)) xs ≡ xs) →
        cond (not b) (x ∷ filter (λ x. not (p x)) xs) (filter (λ x. not (p x)) xs) ≡ x ∷ xs
    go true h rest = absurd (cc h)
    go false h rest = ap (λ (l : List X). x ∷ l) (rest h)

  pub find-none : (xs : List X) → find p xs ≡ None → filter p xs ≡ []
  find-none [] h = refl
  find-none (x ∷ xs) h = go (p x) h (find-none xs) where
    go : (b : Bool) → cond b (Some x) (find p xs) ≡ None → (find p xs ≡ None → filter p xs ≡ []) → cond b (x ∷ filter p xs) (filter p xs) ≡ []
    go true h rest = absurd (none-some x (sym h))
    go false h rest = rest h

  pub none-find : (xs : List X) → filter p xs ≡ [] → find p xs ≡ None
  none-find [] h = refl
  none-find (x ∷ xs) h = go (p x) h (none-find xs) where
    go : (b : Bool) → cond b (x ∷ filter p xs) (filter p xs) ≡ [] → (filter p xs ≡ [] → find p xs ≡ None) → cond b (Some x) (find p xs) ≡ None
    go true h rest = absurd (cc h)
    go false h rest = rest h

  pub find-head : (xs ys : List X) (x : X) → filter p xs ≡ x ∷ ys → find p xs ≡ Some x
  find-head [] ys x h = absurd (cc h)
  find-head (y ∷ xs) ys x h = go (p y) h (find-head xs ys x) where
    go : (b : Bool) → cond b (y ∷ filter p xs) (filter p xs) ≡ x ∷ ys → (filter p xs ≡ x ∷ ys → find p xs ≡ Some x) → cond b (Some y) (find p xs) ≡ Some x
    go true h rest = let same : y ≡ x = cc h in ap (λ (z : X). Some z) same
    go false h rest = rest h

  -- where at most one passes, one that does is all that passes
  pub only-one : (xs : List X) (k : ℕ) (d : X) → length (filter p xs) ≤ 1 → k < length xs → p (get_or xs k d) ≡ true → filter p xs ≡ get_or xs k d ∷ []
  only-one [] k d few lt on = absurd (omega (arith, lt))
  only-one (x ∷ xs) zero d few lt on =
      let here : filter p (x ∷ xs) ≡ x ∷ filter p xs = ap (λ (b : Bool). cond b (x ∷ filter p xs) (filter p xs)) on in
      here ∙ ap (λ (l : List X). x ∷ l) (nil_from_length (filter p xs) (omega (arith, few, ap length here)))
  only-one (x ∷ xs) (suc k) d few lt on = go (p x) few (λ few. only-one xs k d few (omega (arith, lt)) on) where
    go : (b : Bool) → length (cond b (x ∷ filter p xs) (filter p xs)) ≤ 1 → (length (filter p xs) ≤ 1 → filter p xs ≡ get_or xs k d ∷ []) →
        cond b (x ∷ filter p xs) (filter p xs) ≡ get_or xs k d ∷ []
    go true few rest = absurd (omega (arith, few, ap length (rest (omega (arith, few)))))
    go false few rest = rest few

  -- ... and each that passes is that one
  pub is-one : (xs : List X) (k : ℕ) (d x : X) → filter p xs ≡ x ∷ [] → k < length xs → p (get_or xs k d) ≡ true → get_or xs k d ≡ x
  is-one xs k d x h lt on =
      let few : length (filter p xs) ≤ 1 = omega (arith, ap length h) in
      let same : get_or xs k d ∷ [] ≡ x ∷ [] = sym (only-one xs k d few lt on) ∙ h in
      cc same

  -- it is left out of a list that it parts
  pub left-out : (xs ys : List X) (x : X) → p x ≡ true → filter p (xs ++ x ∷ ys) ≡ x ∷ [] → filter (λ z. not (p z)) (xs ++ x ∷ ys) ≡ xs ++ ys
  left-out xs ys x on h =
      let here : filter p (x ∷ ys) ≡ x ∷ filter p ys = ap (λ (b : Bool). cond b (x ∷ filter p ys) (filter p ys)) on in
      let parts : filter p xs ++ x ∷ filter p ys ≡ x ∷ [] = ap (λ (l : List X). filter p xs ++ l) (sym here) ∙ sym (filter-append p xs (x ∷ ys)) ∙ h in
      let long : length (filter p xs) + (1 + length (filter p ys)) ≡ 1 = omega (arith, length-append (filter p xs) (x ∷ filter p ys), ap length parts) in
      let front : filter (λ z. not (p z)) xs ≡ xs = others-all xs (nil_from_length (filter p xs) (omega (arith, long))) in
      let rest : filter (λ z. not (p z)) ys ≡ ys = others-all ys (nil_from_length (filter p ys) (omega (arith, long))) in
      let gone : filter (λ z. not (p z)) (x ∷ ys) ≡ filter (λ z. not (p z)) ys =
      ap (λ (b : Bool). cond (not b) (x ∷ filter (λ z. not (p z)) ys) (filter (λ z. not (p z)) ys)) on in
      filter-append (λ (z : X). not (p z)) xs (x ∷ ys)
      ∙ (λ i. front i ++ (gone ∙ rest) i)

-- ---- one that was inserted

module _ {X : Type 0} (le : X → X → Bool) (p : X → Bool) (x : X) where
  pub inserted-out : (ys : List X) → p x ≡ true → filter (λ z. not (p z)) (insert_by le x ys) ≡ filter (λ z. not (p z)) ys
  inserted-out [] on = ap (λ (b : Bool). cond (not b) (x ∷ []) []) on
  inserted-out (y ∷ ys) on = go (le x y) (inserted-out ys on) where
    go : (b : Bool) → filter (λ z. not (p z)) (insert_by le x ys) ≡ filter (λ z. not (p z)) ys →
        filter (λ z. not (p z)) (cond b (x ∷ y ∷ ys) (y ∷ insert_by le x ys)) ≡ filter (λ z. not (p z)) (y ∷ ys)
    go true rest = ap (λ (b : Bool). cond (not b) (x ∷ filter (λ z. not (p z)) (y ∷ ys)) (filter (λ z. not (p z)) (y ∷ ys))) on
    go false rest = ap (λ (l : List X). cond (not (p y)) (y ∷ l) l) rest

  pub inserted-in : (ys : List X) → p x ≡ true → filter p ys ≡ [] → filter p (insert_by le x ys) ≡ x ∷ []
  inserted-in [] on none = ap (λ (b : Bool). cond b (x ∷ []) []) on
  inserted-in (y ∷ ys) on none = go (le x y) (p y) refl none (inserted-in ys on) where
    go : (b c : Bool) → p y ≡ c → cond c (y ∷ filter p ys) (filter p ys) ≡ [] → (filter p ys ≡ [] → filter p (insert_by le x ys) ≡ x ∷ []) →
        filter p (cond b (x ∷ y ∷ ys) (y ∷ insert_by le x ys)) ≡ x ∷ []
    go b true e none rest = absurd (cc none)
    go true false e none rest =
        ap (λ (c : Bool). cond c (x ∷ filter p (y ∷ ys)) (filter p (y ∷ ys))) on
        ∙ ap (λ (c : Bool). x ∷ cond c (y ∷ filter p ys) (filter p ys)) e
        ∙ ap (λ (l : List X). x ∷ l) none
    go false false e none rest = ap (λ (c : Bool). cond c (y ∷ filter p (insert_by le x ys)) (filter p (insert_by le x ys))) e ∙ rest none
