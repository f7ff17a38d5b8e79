-- What stays in order when a list is moved and sorted again.
use Rattle.std.proofs.Common.{◌≡◌, ℕ, ◌+◌, ◌≤◌, arith, Bool, true, false, cond, List, [], ◌∷◌, map, refl, sym, ap, ◌∙◌}
use Rattle.std.specs.List.{count_by, filter}
use Rattle.std.proofs.lemmas.List.Sums.{sum_by-cons}
use Rattle.cell_units.specs.Sorting.{insert_by, sort_by}
use Rattle.cell_units.proofs.CutLists.{Every}

pub count-cons : {X : Type 0} (p : X → Bool) (x : X) (xs : List X) → count_by p (x ∷ xs) ≡ cond (p x) 1 0 + count_by p xs
count-cons p x xs = sum_by-cons (λ y. cond (p y) 1 0) x xs

pub count-filter : {X : Type 0} (p q : X → Bool) (xs : List X) → count_by q (filter p xs) ≤ count_by q xs
count-filter p q [] = omega arith
count-filter p q (x ∷ xs) = go (p x) (count-filter p q xs) where
  go : (b : Bool) → count_by q (filter p xs) ≤ count_by q xs → count_by q (cond b (x ∷ filter p xs) (filter p xs)) ≤ count_by q (x ∷ xs)
  go true r = omega (arith, count-cons q x (filter p xs), count-cons q x xs, r)
  go false r = omega (arith, count-cons q x xs, r)

pub count-map : {X : Type 0} (f : X → X) (p : X → Bool) → ((x : X) → p (f x) ≡ p x) → (xs : List X) → count_by p (map f xs) ≡ count_by p xs
count-map f p same [] = refl
count-map f p same (x ∷ xs) =
    omega (arith, count-cons p (f x) (map f xs), count-cons p x xs, ap {B = ℕ} (λ (b : Bool). cond b 1 0) (same x), count-map f p same xs)

pub Every-map : {X : Type 0} (f : X → X) (P Q : X → Type 0) → ((x : X) → P x → Q (f x)) → (xs : List X) → Every P xs → Every Q (map f xs)
Every-map f P Q to [] a = tt
Every-map f P Q to (x ∷ xs) a = (to x a.0, Every-map f P Q to xs a.1)

-- those that a filter lets through pass its test
pub Every-passed : {X : Type 0} (p : X → Bool) (xs : List X) → Every (λ x. p x ≡ true) (filter p xs)
Every-passed p [] = tt
Every-passed p (x ∷ xs) = go (p x) refl (Every-passed p xs) where
  go : (b : Bool) → p x ≡ b → Every (λ x. p x ≡ true) (filter p xs) → Every (λ x. p x ≡ true) (cond b (x ∷ filter p xs) (filter p xs))
  go true h r = (h, r)
  go false h r = r

module _ {X : Type 0} (le : X → X → Bool) where
  abbrev pub IsSorted : List X → Type 0
  IsSorted [] = Unit {0}
  IsSorted (x ∷ xs) = Every (λ y. le x y ≡ true) xs × IsSorted xs

  insert_low : (x : X) (ys : List X) → Every (λ y. le x y ≡ true) ys → insert_by le x ys ≡ x ∷ ys
  insert_low x [] a = refl
  insert_low x (y ∷ ys) a = λ i. cond (a.0 i) (x ∷ y ∷ ys) (y ∷ insert_by le x ys)

  pub sort-sorted : (xs : List X) → IsSorted xs → sort_by le xs ≡ xs
  sort-sorted [] a = refl
  sort-sorted (x ∷ xs) a = ap (insert_by le x) (sort-sorted xs a.1) ∙ insert_low x xs a.0

  pub Every-filter : (P : X → Type 0) (p : X → Bool) (xs : List X) → Every P xs → Every P (filter p xs)
  Every-filter P p [] a = tt
  Every-filter P p (x ∷ xs) a = go (p x) (Every-filter P p xs a.1) where
    go : (b : Bool) → Every P (filter p xs) → Every P (cond b (x ∷ filter p xs) (filter p xs))
    go true r = (a.0, r)
    go false r = r

  pub IsSorted-filter : (p : X → Bool) (xs : List X) → IsSorted xs → IsSorted (filter p xs)
  IsSorted-filter p [] a = tt
  IsSorted-filter p (x ∷ xs) a = go (p x) (Every-filter (λ y. le x y ≡ true) p xs a.0) (IsSorted-filter p xs a.1) where
    go : (b : Bool) → Every (λ y. le x y ≡ true) (filter p xs) → IsSorted (filter p xs) → IsSorted (cond b (x ∷ filter p xs) (filter p xs))
    go true e r = (e, r)
    go false e r = r

  module _ (total : (x y : X) → le x y ≡ false → le y x ≡ true) (trans : (x y z : X) → le x y ≡ true → le y z ≡ true → le x z ≡ true) where
    lower : (x y : X) (ys : List X) → le x y ≡ true → Every (λ z. le y z ≡ true) ys → Every (λ z. le x z ≡ true) ys
    lower x y [] h a = tt
    lower x y (z ∷ zs) h a = (trans x y z h a.0, lower x y zs h a.1)

    pub above_insert : (P : X → Type 0) (x : X) (ys : List X) → P x → Every P ys → Every P (insert_by le x ys)
    above_insert P x [] h a = (h, tt)
    above_insert P x (y ∷ ys) h a = go (le x y) (above_insert P x ys h a.1) where
      go : (b : Bool) → Every P (insert_by le x ys) → Every P (cond b (x ∷ y ∷ ys) (y ∷ insert_by le x ys))
      go true r = (h, a)
      go false r = (a.0, r)

    pub IsSorted-insert : (x : X) (ys : List X) → IsSorted ys → IsSorted (insert_by le x ys)
    IsSorted-insert x [] a = (tt, tt)
    IsSorted-insert x (y ∷ ys) a = go (le x y) refl (IsSorted-insert x ys a.1) where
      go : (b : Bool) → le x y ≡ b → IsSorted (insert_by le x ys) → IsSorted (cond b (x ∷ y ∷ ys) (y ∷ insert_by le x ys))
      go true h r = ((h, lower x y ys h a.0), a)
      go false h r = (above_insert (λ z. le y z ≡ true) x ys (total x y h) a.0, r)

    pub IsSorted-sort : (xs : List X) → IsSorted (sort_by le xs)
    IsSorted-sort [] = tt
    IsSorted-sort (x ∷ xs) = IsSorted-insert x (sort_by le xs) (IsSorted-sort xs)

    filter-insert : (p : X → Bool) (x : X) (ys : List X) → IsSorted ys → filter p (insert_by le x ys) ≡ cond (p x) (insert_by le x (filter p ys)) (filter p ys)
    filter-insert p x [] a = refl
    filter-insert p x (y ∷ ys) a = push (le x y) (x ∷ y ∷ ys) (y ∷ insert_by le x ys) ∙ go (le x y) (p x) (p y) refl (filter-insert p x ys a.1) where
      in_front : (c : Bool) → le x y ≡ true → x ∷ cond c (y ∷ filter p ys) (filter p ys) ≡ insert_by le x (cond c (y ∷ filter p ys) (filter p ys))
      in_front true h = sym (insert_low x (y ∷ filter p ys) (h, Every-filter (λ z. le x z ≡ true) p ys (lower x y ys h a.0)))
      in_front false h = sym (insert_low x (filter p ys) (Every-filter (λ z. le x z ≡ true) p ys (lower x y ys h a.0)))

      behind : (b c : Bool) → le x y ≡ false → filter p (insert_by le x ys) ≡ cond b (insert_by le x (filter p ys)) (filter p ys)
          → cond c (y ∷ filter p (insert_by le x ys)) (filter p (insert_by le x ys)) ≡ cond b (insert_by le x (cond c (y ∷ filter p ys) (filter p ys))) (cond c (y ∷ filter p ys) (filter p ys))
      behind true true h r = ap (λ (l : List X). y ∷ l) r ∙ (λ i. cond (sym h i) (x ∷ y ∷ filter p ys) (y ∷ insert_by le x (filter p ys)))
      behind true false h r = r
      behind false true h r = ap (λ (l : List X). y ∷ l) r
      behind false false h r = r

      push : (d : Bool) (us vs : List X) → filter p (cond d us vs) ≡ cond d (filter p us) (filter p vs)
      push true us vs = refl
      push false us vs = refl

      go : (d b c : Bool) → le x y ≡ d → filter p (insert_by le x ys) ≡ cond b (insert_by le x (filter p ys)) (filter p ys)
          → cond d (cond b (x ∷ cond c (y ∷ filter p ys) (filter p ys)) (cond c (y ∷ filter p ys) (filter p ys))) (cond c (y ∷ filter p (insert_by le x ys)) (filter p (insert_by le x ys)))
          ≡ cond b (insert_by le x (cond c (y ∷ filter p ys) (filter p ys))) (cond c (y ∷ filter p ys) (filter p ys))
      go true true c h r = in_front c h
      go true false c h r = refl
      go false b c h r = behind b c h r

    pub filter-sort : (p : X → Bool) (xs : List X) → filter p (sort_by le xs) ≡ sort_by le (filter p xs)
    filter-sort p [] = refl
    filter-sort p (x ∷ xs) = filter-insert p x (sort_by le xs) (IsSorted-sort xs) ∙ ap (λ (l : List X). cond (p x) (insert_by le x l) l) (filter-sort p xs) ∙ go (p x) where
      go : (b : Bool) → cond b (insert_by le x (sort_by le (filter p xs))) (sort_by le (filter p xs)) ≡ sort_by le (cond b (x ∷ filter p xs) (filter p xs))
      go true = refl
      go false = refl

    module _ (mv : X → X) (p p' : X → Bool) (same : (x : X) → p' (mv x) ≡ p x) (kept : (x y : X) → p x ≡ true → p y ≡ true → le x y ≡ true → le (mv x) (mv y) ≡ true) where
      filter-map : (xs : List X) → filter p' (map mv xs) ≡ map mv (filter p xs)
      filter-map [] = refl
      filter-map (x ∷ xs) = (λ i. cond (same x i) (mv x ∷ filter-map xs i) (filter-map xs i)) ∙ go (p x) where
        go : (b : Bool) → cond b (mv x ∷ map mv (filter p xs)) (map mv (filter p xs)) ≡ map mv (cond b (x ∷ filter p xs) (filter p xs))
        go true = refl
        go false = refl

      moved_low : (x : X) (ys : List X) → p x ≡ true → Every (λ y. p y ≡ true) ys → Every (λ y. le x y ≡ true) ys → Every (λ y. le (mv x) y ≡ true) (map mv ys)
      moved_low x [] h b a = tt
      moved_low x (y ∷ ys) h b a = (kept x y h b.0 a.0, moved_low x ys h b.1 a.1)

      moved_sorted : (xs : List X) → Every (λ y. p y ≡ true) xs → IsSorted xs → IsSorted (map mv xs)
      moved_sorted [] b a = tt
      moved_sorted (x ∷ xs) b a = (moved_low x xs b.0 b.1 a.0, moved_sorted xs b.1 a.1)

      passes : (xs : List X) → Every (λ y. p y ≡ true) (filter p xs)
      passes [] = tt
      passes (x ∷ xs) = go (p x) refl (passes xs) where
        go : (b : Bool) → p x ≡ b → Every (λ y. p y ≡ true) (filter p xs) → Every (λ y. p y ≡ true) (cond b (x ∷ filter p xs) (filter p xs))
        go true h r = (h, r)
        go false h r = r

      -- a class whose order the move keeps is in the moved and sorted list as it was
      pub filter-moved_sort : (xs : List X) → IsSorted xs → filter p' (sort_by le (map mv xs)) ≡ map mv (filter p xs)
      filter-moved_sort xs a = filter-sort p' (map mv xs) ∙ ap (sort_by le) (filter-map xs) ∙ sort-sorted (map mv (filter p xs)) (moved_sorted (filter p xs) (passes xs) (IsSorted-filter p xs a))

-- ---- what a sort and a filter keep

module _ {X : Type 0} (le : X → X → Bool) where
  pub Every-insert : (P : X → Type 0) (x : X) (ys : List X) → P x → Every P ys → Every P (insert_by le x ys)
  Every-insert P x [] h a = (h, tt)
  Every-insert P x (y ∷ ys) h a = go (le x y) (Every-insert P x ys h a.1) where
    go : (b : Bool) → Every P (insert_by le x ys) → Every P (cond b (x ∷ y ∷ ys) (y ∷ insert_by le x ys))
    go true r = (h, a)
    go false r = (a.0, r)

  pub Every-sort : (P : X → Type 0) (xs : List X) → Every P xs → Every P (sort_by le xs)
  Every-sort P [] a = tt
  Every-sort P (x ∷ xs) a = Every-insert P x (sort_by le xs) a.0 (Every-sort P xs a.1)

  pub count-insert : (p : X → Bool) (x : X) (ys : List X) → count_by p (insert_by le x ys) ≡ cond (p x) 1 0 + count_by p ys
  count-insert p x [] = count-cons p x []
  count-insert p x (y ∷ ys) = go (le x y) (count-insert p x ys) where
    go : (b : Bool) → count_by p (insert_by le x ys) ≡ cond (p x) 1 0 + count_by p ys → count_by p (cond b (x ∷ y ∷ ys) (y ∷ insert_by le x ys)) ≡ cond (p x) 1 0 + count_by p (y ∷ ys)
    go true r = count-cons p x (y ∷ ys)
    go false r = omega (arith, r, count-cons p y (insert_by le x ys), count-cons p y ys)

  pub count-sort : (p : X → Bool) (xs : List X) → count_by p (sort_by le xs) ≡ count_by p xs
  count-sort p [] = refl
  count-sort p (x ∷ xs) = omega (arith, count-insert p x (sort_by le xs), count-cons p x xs, count-sort p xs)
