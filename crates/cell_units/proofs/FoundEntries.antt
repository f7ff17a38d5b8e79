-- A list with one entry more or less.
use Rattle.std.proofs.Common.{◌≡◌, ◌+◌, ◌≤◌, Bool, true, false, cond, not, List, [], ◌∷◌, ◌++◌, refl, ap, arith}
use Rattle.std.specs.Prelude.{Option, Some, None}
use Rattle.std.specs.List.{All, count_by, filter, find}
use Rattle.std.proofs.lemmas.List.Sums.{sum_by-cons}
use Rattle.std.proofs.lemmas.List.Elements.{All-cons, All-head, All-nil, All-tail}
use Rattle.cell_units.specs.Sorting.{insert_by}
use Rattle.cell_units.proofs.CutLists.{Every}

pub Every-from_All : {X : Type 0} (P : X → Type 0) (xs : List X) → All P xs → Every P xs
Every-from_All P [] h = tt
Every-from_All P (x ∷ xs) h = (All-head P x xs h, Every-from_All P xs (All-tail P x xs h))

-- where an entry is put in
pub record PutIn {X : Type 0} (x : X) (old new : List X) : Type 0 where
  pub before : List X
  pub behind : List X
  pub old_is : old ≡ before ++ behind
  pub new_is : new ≡ before ++ x ∷ behind

module _ {X : Type 0} where
  one_before : (x y : X) (old new : List X) → PutIn x old new → PutIn x (y ∷ old) (y ∷ new)
  one_before x y old new p = record {
    before = y ∷ p.before;
    behind = p.behind;
    old_is = ap (λ (l : List X). y ∷ l) p.old_is;
    new_is = ap (λ (l : List X). y ∷ l) p.new_is;
  }

  pub put_in : (le : X → X → Bool) (x : X) (ys : List X) → PutIn x ys (insert_by le x ys)
  put_in le x [] = record { before = []; behind = []; old_is = refl; new_is = refl }
  put_in le x (y ∷ ys) = go (le x y) (put_in le x ys) where
    go : (b : Bool) → PutIn x ys (insert_by le x ys) → PutIn x (y ∷ ys) (cond b (x ∷ y ∷ ys) (y ∷ insert_by le x ys))
    go true p = record { before = []; behind = y ∷ ys; old_is = refl; new_is = refl }
    go false p = one_before x y ys (insert_by le x ys) p

  pub some_is : (x y : X) → Some x ≡ Some y → x ≡ y
  some_is x y e = ap get e where
    get : Option X → X
    get None = x
    get (Some z) = z

  pub none_counted : (p : X → Bool) (xs : List X) → count_by p xs ≡ 0 → filter (λ x. not (p x)) xs ≡ xs
  none_counted p [] h = refl
  none_counted p (x ∷ xs) h = go (p x) (sum_by-cons (λ x. cond (p x) 1 0) x xs) (none_counted p xs) where
    go : (b : Bool) → count_by p (x ∷ xs) ≡ cond b 1 0 + count_by p xs → (count_by p xs ≡ 0 → filter (λ x. not (p x)) xs ≡ xs) →
        cond (not b) (x ∷ filter (λ x. not (p x)) xs) (filter (λ x. not (p x)) xs) ≡ x ∷ xs
    go true e rest = absurd (omega (arith, e, h))
    go false e rest = ap (λ (l : List X). x ∷ l) (rest (omega (arith, e, h)))

  pub none_found : (p : X → Bool) (xs : List X) → find p xs ≡ None → filter (λ x. not (p x)) xs ≡ xs
  none_found p [] h = refl
  none_found p (x ∷ xs) h = go (p x) h (none_found p xs) where
    go : (b : Bool) → cond b (Some x) (find p xs) ≡ None → (find p xs ≡ None → filter (λ x. not (p x)) xs ≡ xs) →
        cond (not b) (x ∷ filter (λ x. not (p x)) xs) (filter (λ x. not (p x)) xs) ≡ x ∷ xs
    go true e rest = absurd (cc e)
    go false e rest = ap (λ (l : List X). x ∷ l) (rest e)

  -- the one entry of a list that passes a test is where the others were without it
  pub found : (p : X → Bool) (xs : List X) (x : X) → count_by p xs ≤ 1 → find p xs ≡ Some x → PutIn x (filter (λ x. not (p x)) xs) xs
  found p [] x few h = absurd (cc h)
  found p (y ∷ ys) x few h = go (p y) h (sum_by-cons (λ x. cond (p x) 1 0) y ys) (found p ys x) where
    go : (b : Bool) → cond b (Some y) (find p ys) ≡ Some x → count_by p (y ∷ ys) ≡ cond b 1 0 + count_by p ys →
        (count_by p ys ≤ 1 → find p ys ≡ Some x → PutIn x (filter (λ x. not (p x)) ys) ys) →
        PutIn x (cond (not b) (y ∷ filter (λ x. not (p x)) ys) (filter (λ x. not (p x)) ys)) (y ∷ ys)
    go true e c rest = record { before = []; behind = ys; old_is = none_counted p ys (omega (arith, c, few)); new_is = ap (λ z. z ∷ ys) (some_is y x e) }
    go false e c rest = one_before x y (filter (λ x. not (p x)) ys) ys (rest (omega (arith, c, few)) e)

pub All-from_Every : {X : Type 0} (P : X → Type 0) (xs : List X) → Every P xs → All P xs
All-from_Every P [] h = All-nil P
All-from_Every P (x ∷ xs) h = All-cons P x xs h.0 (All-from_Every P xs h.1)
