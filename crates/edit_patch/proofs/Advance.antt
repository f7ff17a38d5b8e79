-- Going on to the next edit of a merge, and taking it.
use Rattle.std.proofs.Common.{◌≡◌, ℕ, ◌+◌, ◌<◌, ◌≤◌, List, [], ◌∷◌, ◌++◌, length, zero, suc, sym, subst, arith, inl, inr, ⊎_elim, ◌⊎◌, append-nil}
use Rattle.std.proofs.lemmas.Bool.{lt-ltb, le-ltb, cases_lt, cond-true, cond-false}
use Rattle.edit_patch.specs.declared.edit.Edit.{Edit}
use Rattle.edit_patch.specs.declared.merge.Front.{Front}
use Rattle.edit_patch.specs.Patch.{IsPatchFrom}
use Rattle.edit_patch.specs.Merge.{reach_of, place_at, open_edit, opened_at, advanced, passed, with_first, with_second}
use Rattle.edit_patch.proofs.Origin.{nearer}
use Rattle.edit_patch.proofs.Shift.{IsShift}
use Rattle.edit_patch.proofs.Answers.{Stands, Answers, answers-first, answers-second, behind-end, behind-opened}
use Rattle.edit_patch.proofs.Closing.{ends, close}

-- no edit of the first patch begins before the middle place
abbrev pub IsFirstLater : ℕ → List Edit → Type 0
IsFirstLater middle [] = Unit {0}
IsFirstLater middle (e ∷ xs) = middle ≤ e.new_start

-- nor one of the second
abbrev pub IsSecondLater : ℕ → List Edit → Type 0
IsSecondLater middle [] = Unit {0}
IsSecondLater middle (e ∷ ys) = middle ≤ e.old_start

first-later : (k m : ℕ) (xs : List Edit) → k ≤ m → IsFirstLater m xs → IsFirstLater k xs
first-later k m [] l h = tt
first-later k m (e ∷ xs) l h = omega arith

second-later : (k m : ℕ) (ys : List Edit) → k ≤ m → IsSecondLater m ys → IsSecondLater k ys
second-later k m [] l h = tt
second-later k m (e ∷ ys) l h = omega arith

first-from : (o p o2 p2 : ℕ) (xs : List Edit) → IsShift o p o2 p2 → IsPatchFrom 0 o p xs → IsFirstLater p2 xs → IsPatchFrom 0 o2 p2 xs
first-from o p o2 p2 [] s h l = tt
first-from o p o2 p2 (e ∷ xs) s h l = let a = h.0 in
    (record { kept = omega arith; even = omega arith; old_order = a.old_order; new_order = a.new_order; some = a.some }, h.1)

second-from : (q n q2 n2 : ℕ) (ys : List Edit) → IsShift q n q2 n2 → IsPatchFrom 0 q n ys → IsSecondLater q2 ys → IsPatchFrom 0 q2 n2 ys
second-from q n q2 n2 [] s h l = tt
second-from q n q2 n2 (e ∷ ys) s h l = let a = h.0 in
    (record { kept = omega arith; even = omega arith; old_order = a.old_order; new_order = a.new_order; some = a.some }, h.1)

-- the open edit may be closed at the reach, and another opened past it
pub stands-opened : (f : Front) (middle : ℕ) (xs ys : List Edit) → Stands f xs ys → IsFirstLater middle xs → IsSecondLater middle ys → reach_of f < middle →
    Stands (opened_at f middle) xs ys
stands-opened f middle xs ys h x y l =
    let s : IsShift f.first.old f.first.new (place_at f middle).old middle = record { even = omega arith; later = omega arith } in
    let t : IsShift f.second.old f.second.new middle (place_at f middle).new = record { even = omega arith; later = omega arith } in
    record {
      first = first-from _ _ _ _ xs s h.first x;
      second = second-from _ _ _ _ ys t h.second y;
      old_order = omega arith;
      new_order = omega arith;
    }

pub answers-opened : (f : Front) (middle : ℕ) (xs ys r : List Edit) → Stands f xs ys → IsFirstLater middle xs → IsSecondLater middle ys → reach_of f < middle →
    Answers (opened_at f middle) xs ys r → Answers f xs ys (open_edit f ++ r)
answers-opened f middle xs ys r h x y l a =
    let z = stands-opened f middle xs ys h x y l in
    let e = ends f in
    let s : IsShift (place_at f (reach_of f)).old (reach_of f) (place_at f middle).old middle = record { even = omega arith; later = omega arith } in
    let t : IsShift (reach_of f) (place_at f (reach_of f)).new middle (place_at f middle).new = record { even = omega arith; later = omega arith } in
    close f xs ys r h (
      first-from _ _ _ _ xs e.first h.first (first-later _ middle xs (omega arith) x),
      second-from _ _ _ _ ys e.second h.second (second-later _ middle ys (omega arith) y),
      behind-opened _ _ _ _ _ _ xs ys r s t l z.first z.second a,
    )

-- where nothing is left, the open edit is the rest of the result
pub answers-end : (f : Front) → Stands f [] [] → Answers f [] [] (open_edit f)
answers-end f h = subst (λ (r : List Edit). Answers f [] [] r) (append-nil (open_edit f)) (close f [] [] [] h (tt, tt, behind-end _ _ _))

-- past the reach another edit is opened, and within it nothing happens
pub advance_cases : (f : Front) (middle : ℕ) →
    ((reach_of f < middle) × (advanced f middle ≡ opened_at f middle) × (passed f middle ≡ open_edit f)) ⊎
    ((middle ≤ reach_of f) × (advanced f middle ≡ f) × (passed f middle ≡ []))
advance_cases f middle =
    ⊎_elim (λ l. inl (l, cond-true _ _ _ (lt-ltb _ _ l), cond-true _ _ _ (lt-ltb _ _ l)))
    (λ l. inr (l, cond-false _ _ _ (le-ltb _ _ l), cond-false _ _ _ (le-ltb _ _ l)))
    (cases_lt (reach_of f) middle)

pub stands-advanced : (f : Front) (middle : ℕ) (xs ys : List Edit) → Stands f xs ys → IsFirstLater middle xs → IsSecondLater middle ys →
    Stands (advanced f middle) xs ys
stands-advanced f middle xs ys h x y =
    ⊎_elim (λ c. subst (λ (g : Front). Stands g xs ys) (sym c.1) (stands-opened f middle xs ys h x y c.0))
    (λ c. subst (λ (g : Front). Stands g xs ys) (sym c.1) h)
    (advance_cases f middle)

-- the middle place is then within reach
pub reach_of-advanced : (f : Front) (middle : ℕ) → middle ≤ reach_of (advanced f middle)
reach_of-advanced f middle =
    ⊎_elim (λ c. subst (λ (g : Front). middle ≤ reach_of g) (sym c.1) (omega arith))
    (λ c. subst (λ (g : Front). middle ≤ reach_of g) (sym c.1) c.0)
    (advance_cases f middle)

pub answers-advanced : (f : Front) (middle : ℕ) (xs ys r : List Edit) → Stands f xs ys → IsFirstLater middle xs → IsSecondLater middle ys →
    Answers (advanced f middle) xs ys r → Answers f xs ys (passed f middle ++ r)
answers-advanced f middle xs ys r h x y a =
    ⊎_elim
    (λ c. subst (λ (l : List Edit). Answers f xs ys (l ++ r)) (sym c.2)
    (answers-opened f middle xs ys r h x y c.0 (subst (λ (g : Front). Answers g xs ys r) c.1 a)))
    (λ c. subst (λ (l : List Edit). Answers f xs ys (l ++ r)) (sym c.2) (subst (λ (g : Front). Answers g xs ys r) c.1 a))
    (advance_cases f middle)

-- the next edit of the first patch is taken
pub stands-first : (f : Front) (e : Edit) (xs ys : List Edit) → Stands f (e ∷ xs) ys → IsSecondLater e.new_start ys →
    Stands (with_first (advanced f e.new_start) e) xs ys
stands-first f e xs ys h y =
    let g = stands-advanced f e.new_start (e ∷ xs) ys h (omega arith) y in
    let a = g.first.0 in
    record { first = nearer 1 _ _ xs g.first.1; second = g.second; old_order = omega arith; new_order = g.new_order }

pub answers-first_taken : (f : Front) (e : Edit) (xs ys r : List Edit) → Stands f (e ∷ xs) ys → IsSecondLater e.new_start ys →
    Answers (with_first (advanced f e.new_start) e) xs ys r → Answers f (e ∷ xs) ys (passed f e.new_start ++ r)
answers-first_taken f e xs ys r h y a =
    answers-advanced f e.new_start (e ∷ xs) ys r h (omega arith) y
    (answers-first (advanced f e.new_start) e xs ys r (stands-advanced f e.new_start (e ∷ xs) ys h (omega arith) y) (reach_of-advanced f e.new_start) a)

-- that of the second
pub stands-second : (f : Front) (e : Edit) (xs ys : List Edit) → Stands f xs (e ∷ ys) → IsFirstLater e.old_start xs →
    Stands (with_second (advanced f e.old_start) e) xs ys
stands-second f e xs ys h x =
    let g = stands-advanced f e.old_start xs (e ∷ ys) h x (omega arith) in
    let a = g.second.0 in
    record { first = g.first; second = nearer 1 _ _ ys g.second.1; old_order = g.old_order; new_order = omega arith }

pub answers-second_taken : (f : Front) (e : Edit) (xs ys r : List Edit) → Stands f xs (e ∷ ys) → IsFirstLater e.old_start xs →
    Answers (with_second (advanced f e.old_start) e) xs ys r → Answers f xs (e ∷ ys) (passed f e.old_start ++ r)
answers-second_taken f e xs ys r h x a =
    answers-advanced f e.old_start xs (e ∷ ys) r h x (omega arith)
    (answers-second (advanced f e.old_start) e xs ys r (stands-advanced f e.old_start xs (e ∷ ys) h x (omega arith)) (reach_of-advanced f e.old_start) a)

-- so there is always a rest that says all
pub rest : (n : ℕ) (f : Front) (xs ys : List Edit) → length xs + length ys ≤ n → Stands f xs ys → (r : List Edit) × Answers f xs ys r
rest n f [] [] l h = (open_edit f, answers-end f h)
rest zero f (e ∷ xs) ys l h = absurd (omega arith)
rest zero f [] (e ∷ ys) l h = absurd (omega arith)
rest (suc n) f (e ∷ xs) [] l h =
    let k = rest n (with_first (advanced f e.new_start) e) xs [] (omega arith) (stands-first f e xs [] h tt) in
    (passed f e.new_start ++ k.0, answers-first_taken f e xs [] k.0 h tt k.1)
rest (suc n) f [] (e ∷ ys) l h =
    let k = rest n (with_second (advanced f e.old_start) e) [] ys (omega arith) (stands-second f e [] ys h tt) in
    (passed f e.old_start ++ k.0, answers-second_taken f e [] ys k.0 h tt k.1)
rest (suc n) f (e ∷ xs) (g ∷ ys) l h =
    ⊎_elim
    (λ (o : g.old_start < e.new_start).
    let k = rest n (with_second (advanced f g.old_start) g) (e ∷ xs) ys (omega arith) (stands-second f g (e ∷ xs) ys h (omega arith)) in
    (passed f g.old_start ++ k.0, answers-second_taken f g (e ∷ xs) ys k.0 h (omega arith) k.1))
    (λ (o : e.new_start ≤ g.old_start).
    let k = rest n (with_first (advanced f e.new_start) e) xs (g ∷ ys) (omega arith) (stands-first f e xs (g ∷ ys) h o) in
    (passed f e.new_start ++ k.0, answers-first_taken f e xs (g ∷ ys) k.0 h o k.1))
    (cases_lt g.old_start e.new_start)
