-- What one kind of a record's entries keeps when one is added, when some are removed, and when all are moved.
use Rattle.std.proofs.Common.{◌≡◌, ◌≢◌, ℕ, ◌+◌, ◌≤◌, Bool, true, false, cond, eqb, List, [], ◌∷◌, zero, suc, length, map, refl, sym, ap, ◌∙◌, subst, arith, inl, inr}
use mathlib.Core.Logic.{◌⊎◌}
use Rattle.std.specs.List.{All, AllPairs, count_by, filter}
use Rattle.std.proofs.lemmas.Bool.{cases_Bool, eq-eqb, eqb-true, false≢true}
use Rattle.std.proofs.lemmas.List.{length-map}
use Rattle.cell_units.specs.declared.limits.TheConstants.{ENTRY_LIMIT}
use Rattle.cell_units.specs.Sorting.{insert_by, sort_by}
use Rattle.cell_units.specs.Lawful.{AreEntries, HasRoom, IsInOrder, count_id}
use Rattle.cell_units.proofs.CutLists.{Every}
use Rattle.cell_units.proofs.FoundEntries.{All-from_Every, Every-from_All}
use Rattle.cell_units.proofs.SortedLists.{IsSorted, IsSorted-sort, IsSorted-insert, IsSorted-filter, sort-sorted, Every-insert, Every-sort, Every-filter, Every-map, Every-passed, count-cons, count-insert, count-sort, count-filter, count-map}

length-insert : {X : Type 0} (le : X → X → Bool) (x : X) (ys : List X) → length (insert_by le x ys) ≡ suc (length ys)
length-insert le x [] = refl
length-insert le x (y ∷ ys) = go (le x y) (length-insert le x ys) where
  go : (b : Bool) → length (insert_by le x ys) ≡ suc (length ys) → length (cond b (x ∷ y ∷ ys) (y ∷ insert_by le x ys)) ≡ suc (suc (length ys))
  go true r = refl
  go false r = ap suc r

length-sort : {X : Type 0} (le : X → X → Bool) (xs : List X) → length (sort_by le xs) ≡ length xs
length-sort le [] = refl
length-sort le (x ∷ xs) = omega (arith, length-insert le x (sort_by le xs), length-sort le xs)

length-filter : {X : Type 0} (p : X → Bool) (xs : List X) → length (filter p xs) ≤ length xs
length-filter p [] = omega arith
length-filter p (x ∷ xs) = go (p x) (length-filter p xs) where
  go : (b : Bool) → length (filter p xs) ≤ length xs → length (cond b (x ∷ filter p xs) (filter p xs)) ≤ suc (length xs)
  go true r = omega (arith, r)
  go false r = omega (arith, r)

Every-both : {X : Type 0} (P Q R : X → Type 0) → ((x : X) → P x → Q x → R x) → (xs : List X) → Every P xs → Every Q xs → Every R xs
Every-both P Q R f [] h k = tt
Every-both P Q R f (x ∷ xs) h k = (f x h.0 k.0, Every-both P Q R f xs h.1 k.1)

-- one more of an id that was not there
one_more : {X : Type 0} (id_of : X → ℕ) (le : X → X → Bool) (x : X) (xs : List X) → count_id id_of (id_of x) xs ≡ 0 →
    ((id : ℕ) → count_id id_of id xs ≤ 1) → (id : ℕ) → count_id id_of id (insert_by le x xs) ≤ 1
one_more id_of le x xs fresh distinct id = go (cases_Bool (eqb (id_of x) id)) where
  counted : count_by (λ y. eqb (id_of y) id) (insert_by le x xs) ≡ cond (eqb (id_of x) id) 1 0 + count_by (λ y. eqb (id_of y) id) xs
  counted = count-insert le (λ y. eqb (id_of y) id) x xs

  go : (eqb (id_of x) id ≡ true) ⊎ (eqb (id_of x) id ≡ false) → count_by (λ y. eqb (id_of y) id) (insert_by le x xs) ≤ 1
  go (inl e) =
      let none : count_by (λ y. eqb (id_of y) id) xs ≡ 0 = subst (λ k. count_by (λ y. eqb (id_of y) k) xs ≡ 0) (eqb-true (id_of x) id e) fresh in
      omega (arith, counted, none, ap {B = ℕ} (λ (b : Bool). cond b 1 0) e)
  go (inr e) = omega (arith, counted, distinct id, ap {B = ℕ} (λ (b : Bool). cond b 1 0) e)

module _ {X : Type 0} (le : X → X → Bool) (total : (x y : X) → le x y ≡ false → le y x ≡ true) (trans : (x y z : X) → le x y ≡ true → le y z ≡ true → le x z ≡ true) (id_of : X → ℕ) where
  pub sorted_entries : (xs : List X) → IsInOrder le xs → IsSorted le xs
  sorted_entries xs e = subst (IsSorted le) e (IsSorted-sort le total trans xs)

  pub entries-added : (P : X → Type 0) (x : X) (xs : List X) → AreEntries le id_of P xs → P x → HasRoom id_of (id_of x) xs → AreEntries le id_of P (insert_by le x xs)
  entries-added P x xs is fits new = record {
    in_order = sort-sorted le (insert_by le x xs) (IsSorted-insert le total trans x xs (sorted_entries xs is.in_order));
    distinct = one_more id_of le x xs new.fresh is.distinct;
    few = omega (arith, length-insert le x xs, new.room);
    each = All-from_Every P (insert_by le x xs) (Every-insert le P x xs fits (Every-from_All P xs is.each));
  }

  pub entries-kept : (P : X → Type 0) (p : X → Bool) (xs : List X) → AreEntries le id_of P xs → AreEntries le id_of P (filter p xs)
  entries-kept P p xs is = record {
    in_order = sort-sorted le (filter p xs) (IsSorted-filter le p xs (sorted_entries xs is.in_order));
    distinct = λ id. omega (arith, count-filter p (λ x. eqb (id_of x) id) xs, is.distinct id);
    few = omega (arith, length-filter p xs, is.few);
    each = All-from_Every P (filter p xs) (Every-filter le P p xs (Every-from_All P xs is.each));
  }

  -- entries but for their order
  record AreApart (P : X → Type 0) (xs : List X) : Type 0 where
    distinct : (id : ℕ) → count_id id_of id xs ≤ 1
    few : length xs ≤ ENTRY_LIMIT
    each : Every P xs

  apart-moved : (P Q : X → Type 0) (f : X → X) → ((x : X) → id_of (f x) ≡ id_of x) → ((x : X) → P x → Q (f x)) → (xs : List X) → AreEntries le id_of P xs → AreApart Q (map f xs)
  apart-moved P Q f same to xs is = record {
    distinct = λ id. omega (arith, count-map f (λ x. eqb (id_of x) id) (λ x. ap (λ k. eqb k id) (same x)) xs, is.distinct id);
    few = omega (arith, length-map xs f, is.few);
    each = Every-map f P Q to xs (Every-from_All P xs is.each);
  }

  apart-sorted : (P : X → Type 0) (xs : List X) → AreApart P xs → AreEntries le id_of P (sort_by le xs)
  apart-sorted P xs is = record {
    in_order = sort-sorted le (sort_by le xs) (IsSorted-sort le total trans xs);
    distinct = λ id. omega (arith, count-sort le (λ x. eqb (id_of x) id) xs, is.distinct id);
    few = omega (arith, length-sort le xs, is.few);
    each = All-from_Every P (sort_by le xs) (Every-sort le P xs is.each);
  }

  -- all are moved, each keeps its id, and they are sorted again
  pub entries-moved : (P Q : X → Type 0) (f : X → X) → ((x : X) → id_of (f x) ≡ id_of x) → ((x : X) → P x → Q (f x)) → (xs : List X) → AreEntries le id_of P xs → AreEntries le id_of Q (sort_by le (map f xs))
  entries-moved P Q f same to xs is = apart-sorted Q (map f xs) (apart-moved P Q f same to xs is)

  -- and of those only the ones that pass a test
  pub entries-moved_some : (P Q R : X → Type 0) (f : X → X) (p : X → Bool) → ((x : X) → id_of (f x) ≡ id_of x) → ((x : X) → P x → Q (f x)) → ((x : X) → Q x → p x ≡ true → R x) →
      (xs : List X) → AreEntries le id_of P xs → AreEntries le id_of R (sort_by le (filter p (map f xs)))
  entries-moved_some P Q R f p same to passed xs is =
      let m = apart-moved P Q f same to xs is in
      apart-sorted R (filter p (map f xs)) (record {
        distinct = λ id. omega (arith, count-filter p (λ x. eqb (id_of x) id) (map f xs), m.distinct id);
        few = omega (arith, length-filter p (map f xs), m.few);
        each = Every-both Q (λ x. p x ≡ true) R passed (filter p (map f xs)) (Every-filter le Q p (map f xs) m.each) (Every-passed p (map f xs));
      })

  -- ---- the same by pairs

  pairs : (xs : List X) → IsSorted le xs → AllPairs (λ x y. le x y ≡ true) xs
  pairs [] h = λ i j d x y. absurd (omega (arith, y))
  pairs (x ∷ xs) h = go (All-from_Every (λ y. le x y ≡ true) xs h.0) (pairs xs h.1) where
    go : All (λ y. le x y ≡ true) xs → AllPairs (λ x y. le x y ≡ true) xs → AllPairs (λ x y. le x y ≡ true) (x ∷ xs)
    go first rest zero zero d l m = absurd (omega (arith, l))
    go first rest (suc i) zero d l m = absurd (omega (arith, l))
    go first rest zero (suc j) d l m = first j d (omega (arith, m))
    go first rest (suc i) (suc j) d l m = rest i j d (omega (arith, l)) (omega (arith, m))

  others : (x : X) (xs : List X) → count_id id_of (id_of x) xs ≡ 0 → Every (λ y. id_of x ≢ id_of y) xs
  others x [] e = tt
  others x (y ∷ ys) e = go (cases_Bool (eqb (id_of y) (id_of x))) (others x ys) where
    counted : count_by (λ z. eqb (id_of z) (id_of x)) (y ∷ ys) ≡ cond (eqb (id_of y) (id_of x)) 1 0 + count_by (λ z. eqb (id_of z) (id_of x)) ys
    counted = count-cons (λ z. eqb (id_of z) (id_of x)) y ys

    go : (eqb (id_of y) (id_of x) ≡ true) ⊎ (eqb (id_of y) (id_of x) ≡ false) → (count_id id_of (id_of x) ys ≡ 0 → Every (λ y. id_of x ≢ id_of y) ys) → Every (λ y. id_of x ≢ id_of y) (y ∷ ys)
    go (inl t) rest = absurd (omega (arith, counted, e, ap {B = ℕ} (λ (b : Bool). cond b 1 0) t))
    go (inr f) rest = (
      λ same. false≢true (sym f ∙ eq-eqb (id_of y) (id_of x) (sym same)),
      rest (omega (arith, counted, e, ap {B = ℕ} (λ (b : Bool). cond b 1 0) f)),
    )

  apart : (xs : List X) → ((id : ℕ) → count_id id_of id xs ≤ 1) → AllPairs (λ x y. id_of x ≢ id_of y) xs
  apart [] h = λ i j d x y. absurd (omega (arith, y))
  apart (x ∷ xs) h = go (All-from_Every (λ y. id_of x ≢ id_of y) xs (others x xs none)) (apart xs fewer) where
    counted : (id : ℕ) → count_by (λ z. eqb (id_of z) id) (x ∷ xs) ≡ cond (eqb (id_of x) id) 1 0 + count_by (λ z. eqb (id_of z) id) xs
    counted id = count-cons (λ z. eqb (id_of z) id) x xs

    fewer : (id : ℕ) → count_id id_of id xs ≤ 1
    fewer id = omega (arith, counted id, h id)

    none : count_id id_of (id_of x) xs ≡ 0
    none = omega (arith, counted (id_of x), h (id_of x), ap {B = ℕ} (λ (b : Bool). cond b 1 0) (eq-eqb (id_of x) (id_of x) refl))

    go : All (λ y. id_of x ≢ id_of y) xs → AllPairs (λ x y. id_of x ≢ id_of y) xs → AllPairs (λ x y. id_of x ≢ id_of y) (x ∷ xs)
    go first rest zero zero d l m = absurd (omega (arith, l))
    go first rest (suc i) zero d l m = absurd (omega (arith, l))
    go first rest zero (suc j) d l m = first j d (omega (arith, m))
    go first rest (suc i) (suc j) d l m = rest i j d (omega (arith, l)) (omega (arith, m))

  -- each entry comes at or before those after it, and no two have one id
  pub entries-pairs : (P : X → Type 0) (xs : List X) → AreEntries le id_of P xs → AllPairs (λ x y. (le x y ≡ true) × (id_of x ≢ id_of y)) xs
  entries-pairs P xs is i j d l m = (pairs xs (sorted_entries xs is.in_order) i j d l m, apart xs is.distinct i j d l m)
