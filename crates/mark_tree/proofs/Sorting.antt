-- Sorted lists, whatever they hold.
use Rattle.std.proofs.Common.{◌≡◌, ℕ, ◌+◌, ◌<◌, ◌≤◌, ◌==◌, Bool, true, false, cond, List, [], ◌∷◌, ◌++◌, length, map, count_by, refl, sym, ap, subst, ◌∙◌, arith, ◌⊎◌, inl, inr, get_or, add-one, zero, suc}
use Rattle.std.specs.List.{Contains, slice_index_or}
use Rattle.std.proofs.lemmas.List.Sums.{sum_by-cons}
use Rattle.std.proofs.lemmas.Bool.Decides.{nat_tests}
use Rattle.cell_units.specs.Sorting.{insert_by, sort_by}

-- each member is P
abbrev pub Every : {X : Type 0} → (X → Type 0) → List X → Type 0
Every P [] = Unit {0}
Every P (x ∷ xs) = P x × Every P xs

abbrev pub Member : {X : Type 0} → X → List X → Type 0
Member x [] = ⊥
Member x (y ∷ ys) = (y ≡ x) ⊎ Member x ys

pub count-cons : {X : Type 0} (p : X → Bool) (x : X) (xs : List X) → count_by p (x ∷ xs) ≡ cond (p x) 1 0 + count_by p xs
count-cons p x xs = sum_by-cons (λ y. cond (p y) 1 0) x xs

module _ {X : Type 0} where
  pub every-append : (P : X → Type 0) (xs ys : List X) → Every P xs → Every P ys → Every P (xs ++ ys)
  every-append P [] ys a b = b
  every-append P (x ∷ xs) ys a b = (a.0, every-append P xs ys a.1 b)

  pub every-left : (P : X → Type 0) (xs ys : List X) → Every P (xs ++ ys) → Every P xs
  every-left P [] ys a = tt
  every-left P (x ∷ xs) ys a = (a.0, every-left P xs ys a.1)

  pub every-right : (P : X → Type 0) (xs ys : List X) → Every P (xs ++ ys) → Every P ys
  every-right P [] ys a = a
  every-right P (x ∷ xs) ys a = every-right P xs ys a.1

  pub every-weaker : (P Q : X → Type 0) → ((x : X) → P x → Q x) → (xs : List X) → Every P xs → Every Q xs
  every-weaker P Q f [] a = tt
  every-weaker P Q f (x ∷ xs) a = (f x a.0, every-weaker P Q f xs a.1)

  pub every-member : (P : X → Type 0) (x : X) (xs : List X) → Every P xs → Member x xs → P x
  every-member P x [] a m = absurd m
  every-member P x (y ∷ ys) a m = elim m [ inl e ↦ subst P e a.0 | inr r ↦ every-member P x ys a.1 r ]

-- no member has this id
abbrev pub IsFresh : {X : Type 0} → (X → ℕ) → ℕ → List X → Type 0
IsFresh id n xs = Every (λ y. (id y ≡ n) → ⊥) xs

-- no later member has the id of an earlier one
abbrev pub AreFresh : {X : Type 0} → (X → ℕ) → List X → Type 0
AreFresh id [] = Unit {0}
AreFresh id (x ∷ xs) = IsFresh id (id x) xs × AreFresh id xs

module _ {X : Type 0} (le : X → X → Bool) where
  -- each member is not above those after it
  abbrev pub IsSorted : List X → Type 0
  IsSorted [] = Unit {0}
  IsSorted (x ∷ xs) = Every (λ y. le x y ≡ true) xs × IsSorted xs

  insert_low : (x : X) (ys : List X) → Every (λ y. le x y ≡ true) ys → insert_by le x ys ≡ x ∷ ys
  insert_low x [] a = refl
  insert_low x (y ∷ ys) a = λ i. cond (a.0 i) (x ∷ y ∷ ys) (y ∷ insert_by le x ys)

  pub sort-sorted : (xs : List X) → IsSorted xs → sort_by le xs ≡ xs
  sort-sorted [] a = refl
  sort-sorted (x ∷ xs) a = ap (insert_by le x) (sort-sorted xs a.1) ∙ insert_low x xs a.0

  pub every-insert : (P : X → Type 0) (x : X) (ys : List X) → P x → Every P ys → Every P (insert_by le x ys)
  every-insert P x [] h a = (h, tt)
  every-insert P x (y ∷ ys) h a = go (le x y) (every-insert P x ys h a.1) where
    go : (b : Bool) → Every P (insert_by le x ys) → Every P (cond b (x ∷ y ∷ ys) (y ∷ insert_by le x ys))
    go true r = (h, a)
    go false r = (a.0, r)

  pub every-sort : (P : X → Type 0) (xs : List X) → Every P xs → Every P (sort_by le xs)
  every-sort P [] a = tt
  every-sort P (x ∷ xs) a = every-insert P x (sort_by le xs) a.0 (every-sort P xs a.1)

  pub count-insert : (p : X → Bool) (x : X) (ys : List X) → count_by p (insert_by le x ys) ≡ count_by p (x ∷ ys)
  count-insert p x [] = refl
  count-insert p x (y ∷ ys) = go (le x y) (count-insert p x ys) where
    go : (b : Bool) → count_by p (insert_by le x ys) ≡ count_by p (x ∷ ys) → count_by p (cond b (x ∷ y ∷ ys) (y ∷ insert_by le x ys)) ≡ count_by p (x ∷ y ∷ ys)
    go true r = refl
    go false r =
        omega (arith, r, count-cons p y (insert_by le x ys), count-cons p x ys, count-cons p x (y ∷ ys), count-cons p y ys)

  pub count-sort : (p : X → Bool) (xs : List X) → count_by p (sort_by le xs) ≡ count_by p xs
  count-sort p [] = refl
  count-sort p (x ∷ xs) = count-insert p x (sort_by le xs) ∙ omega (arith, count-cons p x (sort_by le xs), count-cons p x xs, count-sort p xs)

  pub length-insert : (x : X) (ys : List X) → length (insert_by le x ys) ≡ length ys + 1
  length-insert x [] = omega arith
  length-insert x (y ∷ ys) = go (le x y) (length-insert x ys) where
    go : (b : Bool) → length (insert_by le x ys) ≡ length ys + 1 → length (cond b (x ∷ y ∷ ys) (y ∷ insert_by le x ys)) ≡ length (y ∷ ys) + 1
    go true r = omega arith
    go false r = omega (arith, r)

  pub length-sort : (xs : List X) → length (sort_by le xs) ≡ length xs
  length-sort [] = refl
  length-sort (x ∷ xs) = length-insert x (sort_by le xs) ∙ omega (arith, length-sort xs)

  -- one list after another is sorted by itself
  insert-front : (x : X) (ys zs : List X) → Every (λ z. le x z ≡ true) zs → insert_by le x (ys ++ zs) ≡ insert_by le x ys ++ zs
  insert-front x [] zs b = insert_low x zs b
  insert-front x (y ∷ ys) zs b = go (le x y) (insert-front x ys zs b) where
    go : (c : Bool) → insert_by le x (ys ++ zs) ≡ insert_by le x ys ++ zs → cond c (x ∷ y ∷ (ys ++ zs)) (y ∷ insert_by le x (ys ++ zs)) ≡ cond c (x ∷ y ∷ ys) (y ∷ insert_by le x ys) ++ zs
    go true r = refl
    go false r = ap (λ l. y ∷ l) r

  pub sort-append : (xs ys : List X) → Every (λ x. Every (λ y. le x y ≡ true) ys) xs → sort_by le (xs ++ ys) ≡ sort_by le xs ++ sort_by le ys
  sort-append [] ys a = refl
  sort-append (x ∷ xs) ys a =
      ap (insert_by le x) (sort-append xs ys a.1) ∙ insert-front x (sort_by le xs) (sort_by le ys) (every-sort (λ y. le x y ≡ true) ys a.0)

  pub sorted-left : (xs ys : List X) → IsSorted (xs ++ ys) → IsSorted xs
  sorted-left [] ys s = tt
  sorted-left (x ∷ xs) ys s = (every-left (λ y. le x y ≡ true) xs ys s.0, sorted-left xs ys s.1)

  pub sorted-right : (xs ys : List X) → IsSorted (xs ++ ys) → IsSorted ys
  sorted-right [] ys s = s
  sorted-right (x ∷ xs) ys s = sorted-right xs ys s.1

  module _ (total : (x y : X) → le x y ≡ false → le y x ≡ true) (trans : (x y z : X) → le x y ≡ true → le y z ≡ true → le x z ≡ true) where
    lower : (x y : X) (ys : List X) → le x y ≡ true → Every (λ z. le y z ≡ true) ys → Every (λ z. le x z ≡ true) ys
    lower x y [] h a = tt
    lower x y (z ∷ zs) h a = (trans x y z h a.0, lower x y zs h a.1)

    pub sorted-insert : (x : X) (ys : List X) → IsSorted ys → IsSorted (insert_by le x ys)
    sorted-insert x [] a = (tt, tt)
    sorted-insert x (y ∷ ys) a = go (le x y) refl (sorted-insert x ys a.1) where
      go : (b : Bool) → le x y ≡ b → IsSorted (insert_by le x ys) → IsSorted (cond b (x ∷ y ∷ ys) (y ∷ insert_by le x ys))
      go true h r = ((h, lower x y ys h a.0), a)
      go false h r = (every-insert (λ z. le y z ≡ true) x ys (total x y h) a.0, r)

    -- neighbours in order are a list in order
    pub sorted-from_adjacent : (xs : List X) → ((k : ℕ) (d : X) → k + 1 < length xs → le (get_or xs k d) (get_or xs (k + 1) d) ≡ true) → IsSorted xs
    sorted-from_adjacent [] up = tt
    sorted-from_adjacent (x ∷ []) up = (tt, tt)
    sorted-from_adjacent (x ∷ y ∷ ys) up =
        let first : le x y ≡ true = up 0 x (omega arith) in
        let rest = sorted-from_adjacent (y ∷ ys) (λ k d lt. subst (λ n. le (get_or (y ∷ ys) k d) (get_or (x ∷ y ∷ ys) n d) ≡ true) (add-one (k + 1)) (subst (λ n. le (get_or (x ∷ y ∷ ys) n d) (get_or (x ∷ y ∷ ys) (k + 1 + 1) d) ≡ true) (add-one k) (up (k + 1) d (omega arith)))) in
        ((first, lower x y ys first rest.0), rest)

    pub sorted-sort : (xs : List X) → IsSorted (sort_by le xs)
    sorted-sort [] = tt
    sorted-sort (x ∷ xs) = sorted-insert x (sort_by le xs) (sorted-sort xs)

    -- a list that sorting leaves as it is
    pub sorted-from_same : (xs : List X) → sort_by le xs ≡ xs → IsSorted xs
    sorted-from_same xs same = subst IsSorted same (sorted-sort xs)

    -- sorting twice is sorting once
    pub sort-again : (xs : List X) → sort_by le (sort_by le xs) ≡ sort_by le xs
    sort-again xs = sort-sorted (sort_by le xs) (sorted-sort xs)

  member-insert : (x z : X) (ys : List X) → Member z (insert_by le x ys) → (x ≡ z) ⊎ Member z ys
  member-insert x z [] m = m
  member-insert x z (y ∷ ys) m = go (le x y) m (member-insert x z ys) where
    go : (b : Bool) → Member z (cond b (x ∷ y ∷ ys) (y ∷ insert_by le x ys)) → (Member z (insert_by le x ys) → (x ≡ z) ⊎ Member z ys) → (x ≡ z) ⊎ Member z (y ∷ ys)
    go true n r = n
    go false n r = elim n [ inl e ↦ inr (inl e) | inr k ↦ elim (r k) [ inl e ↦ inl e | inr k' ↦ inr (inr k') ] ]

  insert-member : (x z : X) (ys : List X) → (x ≡ z) ⊎ Member z ys → Member z (insert_by le x ys)
  insert-member x z [] m = m
  insert-member x z (y ∷ ys) m = go (le x y) (insert-member x z ys) where
    go : (b : Bool) → ((x ≡ z) ⊎ Member z ys → Member z (insert_by le x ys)) → Member z (cond b (x ∷ y ∷ ys) (y ∷ insert_by le x ys))
    go true r = m
    go false r = elim m [ inl e ↦ inr (r (inl e)) | inr n ↦ elim n [ inl e ↦ inl e | inr k ↦ inr (r (inr k)) ] ]

  pub member-sort : (z : X) (xs : List X) → Member z (sort_by le xs) → Member z xs
  member-sort z [] m = m
  member-sort z (x ∷ xs) m = elim (member-insert x z (sort_by le xs) m) [ inl e ↦ inl e | inr n ↦ inr (member-sort z xs n) ]

  pub sort-member : (z : X) (xs : List X) → Member z xs → Member z (sort_by le xs)
  sort-member z [] m = m
  sort-member z (x ∷ xs) m = insert-member x z (sort_by le xs) (elim m [ inl e ↦ inl e | inr n ↦ inr (sort-member z xs n) ])

  -- Two sorted lists of the same members are one list, where no two members have one id.
  module _ (id : X → ℕ) (same_id : (x y : X) → le x y ≡ true → le y x ≡ true → id x ≡ id y) where
    pub one_order : (xs ys : List X) → IsSorted xs → IsSorted ys → AreFresh id xs → AreFresh id ys → ((z : X) → Member z xs → Member z ys) → ((z : X) → Member z ys → Member z xs) → xs ≡ ys
    one_order [] [] s t f g into back = refl
    one_order [] (y ∷ ys) s t f g into back = absurd (back y (inl refl))
    one_order (x ∷ xs) [] s t f g into back = absurd (into x (inl refl))
    one_order (x ∷ xs) (y ∷ ys) s t f g into back =
        let first : x ≡ y = elim (into x (inl refl)) [
          | inl e ↦ sym e
          | inr m ↦ elim (back y (inl refl)) [
            | inl e ↦ e
            | inr n ↦ absurd (every-member (λ z. (id z ≡ id x) → ⊥) y xs f.0 n (same_id y x (every-member (λ z. le y z ≡ true) x ys t.0 m) (every-member (λ z. le x z ≡ true) y xs s.0 n)))
          ]
        ] in
        let rest : xs ≡ ys = one_order xs ys s.1 t.1 f.1 g.1
        (λ z m. elim (into z (inr m)) [ inl e ↦ absurd (every-member (λ w. (id w ≡ id x) → ⊥) z xs f.0 m (ap id (sym e ∙ sym first))) | inr n ↦ n ])
        (λ z m. elim (back z (inr m)) [ inl e ↦ absurd (every-member (λ w. (id w ≡ id y) → ⊥) z ys g.0 m (ap id (sym e ∙ first))) | inr n ↦ n ]) in
        λ i. first i ∷ rest i

one : (n m : ℕ) → m ≡ n → 1 ≤ cond (m == n) 1 0
one n m e = go (m == n) (grind (arith, nat_tests)) where
  go : (b : Bool) → b ≡ true → 1 ≤ cond b 1 0
  go true q = omega arith
  go false q = absurd (cc)

module _ {X : Type 0} where
  pub contains-from_member : (z : X) (xs : List X) → Member z xs → Contains xs z
  contains-from_member z [] m = absurd m
  contains-from_member z (x ∷ xs) m = elim m [
    | inl e ↦ (0, omega arith, e)
    | inr n ↦ let c = contains-from_member z xs n in (suc c.0, omega (arith, c.1), c.2)
  ]

  pub member-from_contains : (z : X) (xs : List X) → Contains xs z → Member z xs
  member-from_contains z xs c = go xs c.0 c.1 c.2 where
    go : (ys : List X) (k : ℕ) → k < length ys → slice_index_or ys k z ≡ z → Member z ys
    go [] k lt e = absurd (omega arith)
    go (y ∷ ys) zero lt e = inl e
    go (y ∷ ys) (suc k) lt e = inr (go ys k (omega arith) e)

  module _ (id : X → ℕ) where
    no_more : (n : ℕ) (xs : List X) → count_by (λ x. id x == n) xs ≤ 0 → IsFresh id n xs
    no_more n [] few = tt
    no_more n (x ∷ xs) few = (λ e. absurd (omega (arith, few, one n (id x) e, count-cons (λ y. id y == n) x xs)), no_more n xs (omega (arith, few, count-cons (λ y. id y == n) x xs)))

    -- where no id is there twice
    pub fresh-from_count : (xs : List X) → ((n : ℕ) → count_by (λ x. id x == n) xs ≤ 1) → AreFresh id xs
    fresh-from_count [] few = tt
    fresh-from_count (x ∷ xs) few =
        (no_more (id x) xs (omega (arith, few (id x), one (id x) (id x) refl, count-cons (λ y. id y == id x) x xs)), fresh-from_count xs (λ n. omega (arith, few n, count-cons (λ y. id y == n) x xs)))

-- A map that keeps the order of those that are Q keeps what sorting makes of them.
module _ {X Y : Type 0} (f : X → Y) (le : X → X → Bool) (le' : Y → Y → Bool) (Q : X → Type 0) (same : (x y : X) → Q x → Q y → le x y ≡ le' (f x) (f y)) where
  pub insert-map : (x : X) (ys : List X) → Q x → Every Q ys → map f (insert_by le x ys) ≡ insert_by le' (f x) (map f ys)
  insert-map x [] a b = refl
  insert-map x (y ∷ ys) a b = (λ i. map f (cond (same x y a b.0 i) (x ∷ y ∷ ys) (y ∷ insert_by le x ys))) ∙ go (le' (f x) (f y)) (insert-map x ys a b.1) where
    go : (c : Bool) → map f (insert_by le x ys) ≡ insert_by le' (f x) (map f ys) → map f (cond c (x ∷ y ∷ ys) (y ∷ insert_by le x ys)) ≡ cond c (f x ∷ f y ∷ map f ys) (f y ∷ insert_by le' (f x) (map f ys))
    go true r = refl
    go false r = ap (λ l. f y ∷ l) r

  pub sort-map : (xs : List X) → Every Q xs → map f (sort_by le xs) ≡ sort_by le' (map f xs)
  sort-map [] a = refl
  sort-map (x ∷ xs) a = insert-map x (sort_by le xs) a.0 (every-sort le Q xs a.1) ∙ ap (insert_by le' (f x)) (sort-map xs a.1)
