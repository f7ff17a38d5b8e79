-- What holds all through a merge.
use Rattle.std.proofs.Common.{◌≡◌, ℕ, ◌+◌, ◌^◌, ◌<◌, ◌≤◌, Bool, true, false, ltb, ◌||◌, List, [], ◌∷◌, ◌++◌, length, drop, get_or, suc, sym, subst, arith, ⊎_elim, append_assoc, append-nil, add-one, drop-cons}
use Rattle.std.specs.Prelude.{All}
use Rattle.std.proofs.lemmas.Bool.{cases_Bool, cond-true, or_parts, ltb-false}
use Rattle.std.proofs.lemmas.List.{drop_all}
use Rattle.std.proofs.lemmas.List.Elements.{All-head}
use Rattle.edit_patch.specs.declared.edit.Edit.{Edit}
use Rattle.edit_patch.specs.declared.merge.Place.{Place}
use Rattle.edit_patch.specs.declared.merge.Front.{Front}
use Rattle.edit_patch.specs.Patch.{IsPatch, IsComposed, AllFit}
use Rattle.edit_patch.specs.Merge.{begun, reach_of, place_at, open_edit, opened_at, advanced, passed, with_first, with_second, IsBounded, IsClosable, CanAdvance}
use Rattle.edit_patch.proofs.Answers.{Stands, Answers}
use Rattle.edit_patch.proofs.Advance.{IsFirstLater, IsSecondLater, stands-opened, answers-opened, answers-end, stands-first, answers-first_taken, stands-second, answers-second_taken, rest}
use Rattle.edit_patch.proofs.Composition.{composed}

-- the merge of a and b has the edits `out` closed, and xs and ys left
pub record Merging (a b : List Edit) (f : Front) (xs ys out : List Edit) : Type 0 where
  pub second : IsPatch b
  pub stands : Stands f xs ys
  pub bounded : IsBounded f
  pub answers : (r : List Edit) → Answers f xs ys r → Answers begun a b (out ++ r)

pub merging-first : (a b : List Edit) (f : Front) (e : Edit) (xs ys out : List Edit) → Merging a b f (e ∷ xs) ys out → IsSecondLater e.new_start ys →
    IsBounded (with_first (advanced f e.new_start) e) →
    Merging a b (with_first (advanced f e.new_start) e) xs ys (out ++ passed f e.new_start)
merging-first a b f e xs ys out h y bounded = record {
  second = h.second;
  stands = stands-first f e xs ys h.stands y;
  bounded = bounded;
  answers = λ r k. subst (λ (l : List Edit). Answers begun a b l) (sym (append_assoc out (passed f e.new_start) r))
      (h.answers (passed f e.new_start ++ r) (answers-first_taken f e xs ys r h.stands y k));
}

pub merging-second : (a b : List Edit) (f : Front) (e : Edit) (xs ys out : List Edit) → Merging a b f xs (e ∷ ys) out → IsFirstLater e.old_start xs →
    IsBounded (with_second (advanced f e.old_start) e) →
    Merging a b (with_second (advanced f e.old_start) e) xs ys (out ++ passed f e.old_start)
merging-second a b f e xs ys out h x bounded = record {
  second = h.second;
  stands = stands-second f e xs ys h.stands x;
  bounded = bounded;
  answers = λ r k. subst (λ (l : List Edit). Answers begun a b l) (sym (append_assoc out (passed f e.old_start) r))
      (h.answers (passed f e.old_start ++ r) (answers-second_taken f e xs ys r h.stands x k));
}

-- where nothing is left, the open edit completes the composition
pub merging-end : (a b : List Edit) (f : Front) (out : List Edit) → Merging a b f [] [] out → IsComposed a b (out ++ open_edit f)
merging-end a b f out h = composed a b _ h.second (h.answers (open_edit f) (answers-end f h.stands))

all-append-right : (P : Edit → Type 0) (xs ys : List Edit) → All P (xs ++ ys) → All P ys
all-append-right P [] ys h = h
all-append-right P (x ∷ xs) ys h = all-append-right P xs ys (λ k d l. h (suc k) d (omega arith))

-- an open edit that is not empty fits where it is part of what fits
fits-open : (f : Front) (r : List Edit) → AllFit (open_edit f ++ r) →
    (let end = place_at f (reach_of f) in f.start.old + f.start.new < end.old + end.new → (end.old < 2 ^ 32) × (end.new < 2 ^ 32))
fits-open f r h some =
    let end : Place = place_at f (reach_of f) in
    let test : Bool = ltb f.start.old end.old || ltb f.start.new end.new in
    let e : Edit = record { old_start = f.start.old; old_end = end.old; new_start = f.start.new; new_end = end.new } in
    ⊎_elim
    (λ (a : test ≡ true). All-head (λ x. (x.old_end < 2 ^ 32) × (x.new_end < 2 ^ 32)) e r
    (subst (λ (l : List Edit). AllFit (l ++ r)) (cond-true test (e ∷ []) [] a) h))
    (λ (a : test ≡ false). absurd (let b = or_parts (ltb f.start.old end.old) (ltb f.start.new end.new) a in
    let b0 : end.old ≤ f.start.old = ltb-false _ _ b.0 in let b1 : end.new ≤ f.start.new = ltb-false _ _ b.1 in omega arith))
    (cases_Bool test)

-- an open edit with which the result goes on may be closed
closable : (a b : List Edit) (f : Front) (xs ys out r : List Edit) → Merging a b f xs ys out → ((c : List Edit) → IsComposed a b c → AllFit c) →
    Answers f xs ys (open_edit f ++ r) → IsClosable f
closable a b f xs ys out r h fit k = let s = h.stands in record {
  bounded = h.bounded;
  old_order = s.old_order;
  new_order = s.new_order;
  fits = fits-open f r (all-append-right (λ x. (x.old_end < 2 ^ 32) × (x.new_end < 2 ^ 32)) out _ (fit _ (composed a b _ h.second (h.answers (open_edit f ++ r) k))));
}

pub closable-end : (a b : List Edit) (f : Front) (out : List Edit) → Merging a b f [] [] out → ((c : List Edit) → IsComposed a b c → AllFit c) → IsClosable f
closable-end a b f out h fit =
    closable a b f [] [] out [] h fit (subst (λ (l : List Edit). Answers f [] [] l) (sym (append-nil (open_edit f))) (answers-end f h.stands))

pub can_advance : (a b : List Edit) (f : Front) (middle : ℕ) (xs ys out : List Edit) → Merging a b f xs ys out →
    ((c : List Edit) → IsComposed a b c → AllFit c) → IsFirstLater middle xs → IsSecondLater middle ys → CanAdvance f middle
can_advance a b f middle xs ys out h fit x y = record {
  bounded = h.bounded;
  closable = λ l.
      let r = rest (length xs + length ys) (opened_at f middle) xs ys (omega arith) (stands-opened f middle xs ys h.stands x y l) in
      closable a b f xs ys out r.0 h fit (answers-opened f middle xs ys r.0 h.stands x y l r.1);
}

drop-at : (es : List Edit) (i : ℕ) (d : Edit) → i < length es → drop i es ≡ get_or es i d ∷ drop (i + 1) es
drop-at es i d l = rw add-one (drop-cons es i d l)

-- the edits from the i-th on, by whether there is an i-th
first-later_at : (middle : ℕ) (xs : List Edit) (i : ℕ) (d : Edit) → i < length xs → middle ≤ (get_or xs i d).new_start → IsFirstLater middle (drop i xs)
first-later_at middle xs i d l h = subst (λ (z : List Edit). IsFirstLater middle z) (sym (drop-at xs i d l)) h

pub first-later_past : (middle : ℕ) (xs : List Edit) (i : ℕ) (d : Edit) → i < length xs → middle < (get_or xs i d).new_start → IsFirstLater middle (drop i xs)
first-later_past middle xs i d l h = first-later_at middle xs i d l (omega arith)

pub first-later_end : (middle : ℕ) (xs : List Edit) (i : ℕ) → length xs ≤ i → IsFirstLater middle (drop i xs)
first-later_end middle xs i l = subst (λ (z : List Edit). IsFirstLater middle z) (sym (drop_all i xs l)) tt

pub second-later_at : (middle : ℕ) (ys : List Edit) (i : ℕ) (d : Edit) → i < length ys → middle ≤ (get_or ys i d).old_start → IsSecondLater middle (drop i ys)
second-later_at middle ys i d l h = subst (λ (z : List Edit). IsSecondLater middle z) (sym (drop-at ys i d l)) h

-- the i-th edit of the first patch may be taken
pub can_take_first : (a b : List Edit) (f : Front) (xs ys out : List Edit) (i : ℕ) (d : Edit) → Merging a b f (drop i xs) ys out →
    ((c : List Edit) → IsComposed a b c → AllFit c) → i < length xs → IsSecondLater (get_or xs i d).new_start ys → CanAdvance f (get_or xs i d).new_start
can_take_first a b f xs ys out i d h fit l y =
    can_advance a b f (get_or xs i d).new_start (drop i xs) ys out h fit (first-later_at _ xs i d l (omega arith)) y

pub takes_first : (a b : List Edit) (f f2 : Front) (xs ys out out2 : List Edit) (i : ℕ) (d : Edit) → Merging a b f (drop i xs) ys out →
    i < length xs → IsSecondLater (get_or xs i d).new_start ys → IsBounded f2 →
    f2 ≡ with_first (advanced f (get_or xs i d).new_start) (get_or xs i d) → out2 ≡ out ++ passed f (get_or xs i d).new_start →
    Merging a b f2 (drop (i + 1) xs) ys out2
takes_first a b f f2 xs ys out out2 i d h l y bounded front edits =
    let e : Edit = get_or xs i d in
    let k : Merging a b f (e ∷ drop (i + 1) xs) ys out = subst (λ (z : List Edit). Merging a b f z ys out) (drop-at xs i d l) h in
    subst (λ (z : List Edit). Merging a b f2 (drop (i + 1) xs) ys z) (sym edits)
    (subst (λ (z : Front). Merging a b z (drop (i + 1) xs) ys (out ++ passed f e.new_start)) (sym front)
    (merging-first a b f e (drop (i + 1) xs) ys out k y (subst IsBounded front bounded)))

-- that of the second
pub can_take_second : (a b : List Edit) (f : Front) (xs ys out : List Edit) (i : ℕ) (d : Edit) → Merging a b f xs (drop i ys) out →
    ((c : List Edit) → IsComposed a b c → AllFit c) → i < length ys → IsFirstLater (get_or ys i d).old_start xs → CanAdvance f (get_or ys i d).old_start
can_take_second a b f xs ys out i d h fit l x =
    can_advance a b f (get_or ys i d).old_start xs (drop i ys) out h fit x (second-later_at _ ys i d l (omega arith))

pub takes_second : (a b : List Edit) (f f2 : Front) (xs ys out out2 : List Edit) (i : ℕ) (d : Edit) → Merging a b f xs (drop i ys) out →
    i < length ys → IsFirstLater (get_or ys i d).old_start xs → IsBounded f2 →
    f2 ≡ with_second (advanced f (get_or ys i d).old_start) (get_or ys i d) → out2 ≡ out ++ passed f (get_or ys i d).old_start →
    Merging a b f2 xs (drop (i + 1) ys) out2
takes_second a b f f2 xs ys out out2 i d h l x bounded front edits =
    let e : Edit = get_or ys i d in
    let k : Merging a b f xs (e ∷ drop (i + 1) ys) out = subst (λ (z : List Edit). Merging a b f xs z out) (drop-at ys i d l) h in
    subst (λ (z : List Edit). Merging a b f2 xs (drop (i + 1) ys) z) (sym edits)
    (subst (λ (z : Front). Merging a b z xs (drop (i + 1) ys) (out ++ passed f e.old_start)) (sym front)
    (merging-second a b f e xs (drop (i + 1) ys) out k x (subst IsBounded front bounded)))
