-- An item of a part of a list, at its place in the whole.
use Rattle.std.proofs.Common.{◌≡◌, ℕ, zero, suc, ◌+◌, ◌-◌, ◌≤◌, List, [], ◌∷◌, ◌++◌, length, drop, ap, ◌∙◌, sym, arith, zero-add, add-one, Some}
use Rattle.std.specs.List.{slice_get}
use Rattle.sum_tree.specs.Cursors.{last_of}

slice_get_after : {X : Type 0} (xs ys : List X) (n : ℕ) → slice_get (xs ++ ys) (length xs + n) ≡ slice_get ys n
slice_get_after [] ys n = ap (slice_get ys) (zero-add n)
slice_get_after (x ∷ xs) ys n =
    let e : length (x ∷ xs) + n ≡ suc (length xs + n) = omega arith in
    ap (slice_get (x ∷ (xs ++ ys))) e ∙ slice_get_after xs ys n

slice_get_before : {X : Type 0} (xs ys : List X) (n : ℕ) (x : X) → slice_get xs n ≡ Some x → slice_get (xs ++ ys) n ≡ Some x
slice_get_before [] ys n x e = cc
slice_get_before (z ∷ xs) ys zero x e = e
slice_get_before (z ∷ xs) ys (suc n) x e = slice_get_before xs ys n x e

pub slice_get_within_part : {X : Type 0} (all before part after : List X) (at offset : ℕ) (x : X) → all ≡ before ++ (part ++ after) → offset ≡ length before → offset ≤ at → slice_get part (at - offset) ≡ Some x → slice_get all at ≡ Some x
slice_get_within_part all before part after at offset x e oe low is =
    let n : at ≡ length before + (at - offset) = omega arith in
    ap (λ l. slice_get l at) e ∙ ap (slice_get (before ++ (part ++ after))) n
    ∙ slice_get_after before (part ++ after) (at - offset) ∙ slice_get_before part after (at - offset) x is

-- the item at the head of what follows a place
pub slice_get-ahead : {X : Type 0} (all : List X) (n : ℕ) (x : X) (rest : List X) → drop n all ≡ x ∷ rest → slice_get all n ≡ Some x
slice_get-ahead [] zero x rest e = cc
slice_get-ahead [] (suc n) x rest e = cc
slice_get-ahead (y ∷ all) zero x rest e = cc
slice_get-ahead (y ∷ all) (suc n) x rest e = slice_get-ahead all n x rest e

-- the item at a place is what follows there
pub drop-at : {X : Type 0} (all : List X) (n : ℕ) (x : X) → slice_get all n ≡ Some x → drop n all ≡ (x ∷ []) ++ drop (n + 1) all
drop-at [] n x e = cc
drop-at (y ∷ all) zero x e = ap (λ w. w ∷ all) (same y x e)
  where
    same : {A : Type 0} (a b : A) → Some a ≡ Some b → a ≡ b
    same a b p = cc
drop-at (y ∷ all) (suc n) x e =
    let k : suc n + 1 ≡ suc (n + 1) = omega arith in
    drop-at all n x e ∙ ap (λ j. (x ∷ []) ++ drop j (y ∷ all)) (sym k)

pub last_of-next : {X : Type 0} (all : List X) (n : ℕ) → last_of all (n + 1) ≡ slice_get all n
last_of-next all n = ap (last_of all) (add-one n)
