-- Elements of lists: filters, and the first by an order.
use Rattle.std.proofs.Common.{◌≡◌, ℕ, ◌<◌, ◌⊎◌, inl, inr, Bool, true, false, cond, if◌then◌else◌, List, [], ◌∷◌, zero, suc, length, map, filter, slice_index_or, Option, Some, None, refl, ap, sym, ◌∙◌, subst, arith}
use Rattle.std.specs.List.{All, Contains}
use Rattle.std.proofs.lemmas.Bool.{false≢true}
use Rattle.std.proofs.lemmas.List.Elements.{All-cons, All-nil}
use Rattle.plain_rows.specs.Spots.{earlier, first_by}

module _ {X : Type 0} where
  pub contains-first : (x : X) (xs : List X) → Contains (x ∷ xs) x
  contains-first x xs = (0, omega arith, refl)

  pub contains-later : (x : X) (xs : List X) (y : X) → Contains xs y → Contains (x ∷ xs) y
  contains-later x xs y m = (suc m.0, omega (arith, m.1), m.2)

  pub contains-cases : (x : X) (xs : List X) (y : X) → Contains (x ∷ xs) y → (x ≡ y) ⊎ Contains xs y
  contains-cases x xs y m = go m.0 m.1 m.2 where
    go : (k : ℕ) → k < length (x ∷ xs) → slice_index_or (x ∷ xs) k y ≡ y → (x ≡ y) ⊎ Contains xs y
    go zero l e = inl e
    go (suc k) l e = inr (k, omega (arith, l), e)

  pub contains-none : (y : X) → Contains [] y → ⊥
  contains-none y m = omega (arith, m.1)

  -- what a filter keeps is of the list and passes
  pub contains-unfiltered : (p : X → Bool) (xs : List X) (y : X) → Contains (filter p xs) y → Contains xs y × (p y ≡ true)
  contains-unfiltered p [] y m = absurd (contains-none y m)
  contains-unfiltered p (x ∷ xs) y m = go (p x) refl (contains-unfiltered p xs y) m where
    go : (b : Bool) → p x ≡ b → (Contains (filter p xs) y → Contains xs y × (p y ≡ true)) → Contains (cond b (x ∷ filter p xs) (filter p xs)) y → Contains (x ∷ xs) y × (p y ≡ true)
    go false e rest h = let r = rest h in (contains-later x xs y r.0, r.1)
    go true e rest h = elim (contains-cases x (filter p xs) y h) [
      | inl same ↦ (subst (λ z. Contains (x ∷ xs) z) same (contains-first x xs), subst (λ z. p z ≡ true) same e)
      | inr later ↦ let r = rest later in (contains-later x xs y r.0, r.1)
    ]

  -- what is of the list and passes is kept
  pub contains-filtered : (p : X → Bool) (xs : List X) (y : X) → Contains xs y → p y ≡ true → Contains (filter p xs) y
  contains-filtered p [] y m h = absurd (contains-none y m)
  contains-filtered p (x ∷ xs) y m h = go (p x) refl (λ l. contains-filtered p xs y l h) (contains-cases x xs y m) where
    go : (b : Bool) → p x ≡ b → (Contains xs y → Contains (filter p xs) y) → (x ≡ y) ⊎ Contains xs y → Contains (cond b (x ∷ filter p xs) (filter p xs)) y
    go false e rest (inl same) = absurd (false≢true (sym e ∙ ap p same ∙ h))
    go false e rest (inr later) = rest later
    go true e rest (inl same) = subst (λ z. Contains (x ∷ filter p xs) z) same (contains-first x (filter p xs))
    go true e rest (inr later) = contains-later x (filter p xs) y (rest later)

  -- an element passes what all pass
  pub all-contained : (P : X → Type 0) (xs : List X) (y : X) → All P xs → Contains xs y → P y
  all-contained P xs y all m = subst P m.2 (all m.0 y m.1)

  -- the first by an order is one of the list, and none comes before it
  abbrev pub IsFirst : (X → X → Bool) → List X → Option X → Type 0
  IsFirst le xs None = xs ≡ []
  IsFirst le xs (Some x) = Contains xs x × All (λ y. le x y ≡ true) xs

  module _ (le : X → X → Bool) (le-refl : (x : X) → le x x ≡ true) (le-total : (x y : X) → le x y ≡ false → le y x ≡ true) (le-trans : (x y z : X) → le x y ≡ true → le y z ≡ true → le x z ≡ true) where
    pub first_by-first : (xs : List X) → IsFirst le xs (first_by le xs)
    first_by-first [] = refl
    first_by-first (x ∷ xs) = go (first_by le xs) (first_by-first xs) where
      pick : (y : X) → Contains xs y × All (λ z. le y z ≡ true) xs → (b : Bool) → le x y ≡ b → IsFirst le (x ∷ xs) (Some (if b then x else y))
      pick y h true e = (contains-first x xs, All-cons (λ z. le x z ≡ true) x xs (le-refl x) (λ k d l. le-trans x y (slice_index_or xs k d) e (h.1 k d l)))
      pick y h false e = (contains-later x xs y h.0, All-cons (λ z. le y z ≡ true) x xs (le-total x y e) h.1)

      go : (o : Option X) → IsFirst le xs o → IsFirst le (x ∷ xs) (Some (earlier le x o))
      go None e = (contains-first x xs, All-cons (λ z. le x z ≡ true) x xs (le-refl x) (subst (λ (l : List X). All (λ z. le x z ≡ true) l) (sym e) (All-nil (λ z. le x z ≡ true))))
      go (Some y) h = pick y h (le x y) refl

pub contains-mapped : {X Y : Type 0} (f : X → Y) (xs : List X) (x : X) → Contains xs x → Contains (map f xs) (f x)
contains-mapped f [] x m = absurd (contains-none x m)
contains-mapped f (y ∷ ys) x m = elim (contains-cases y ys x m) [
  | inl same ↦ subst (λ z. Contains (f y ∷ map f ys) z) (ap f same) (contains-first (f y) (map f ys))
  | inr later ↦ contains-later (f y) (map f ys) (f x) (contains-mapped f ys x later)
]

pub contains-some : {X : Type 0} (xs : List X) (x : X) → Contains xs x → 0 < length xs
contains-some xs x m = omega (arith, m.1)
