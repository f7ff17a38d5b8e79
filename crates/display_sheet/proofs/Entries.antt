-- Entries of a record in their order: one more, one less, and all of them moved.
use Rattle.std.proofs.Common.{◌≡◌, ℕ, ◌+◌, ◌-◌, ◌<◌, ◌≤◌, suc, Bool, true, false, cond, not, List, [], ◌∷◌, ◌++◌, length, map, reverse, take, drop, get_or, refl, sym, ap, subst, ◌∙◌, arith, append_assoc}
use Rattle.std.specs.List.{filter, insert, prefix_len}
use Rattle.std.proofs.lemmas.List.{map-append, reverse-append, take_more, drop_more, get_or_default, take_all, length-drop, take-append-drop}
use Rattle.cell_units.specs.Sorting.{insert_by, sort_by}
use Rattle.cell_units.proofs.CutLists.{Every}

Every-append : {X : Type 0} (P : X → Type 0) (xs ys : List X) → Every P xs → Every P ys → Every P (xs ++ ys)
Every-append P [] ys a b = b
Every-append P (x ∷ xs) ys a b = (a.0, Every-append P xs ys a.1 b)

Every-reverse : {X : Type 0} (P : X → Type 0) (xs : List X) → Every P xs → Every P (reverse xs)
Every-reverse P [] a = tt
Every-reverse {X} P (x ∷ xs) a =
    subst (Every P) (sym (reverse-append (x ∷ []) xs)) (Every-append P (reverse xs) (x ∷ []) (Every-reverse P xs a.1) (a.0, tt))

module _ {X Y : Type 0} (see : X → Y) (le : Y → Y → Bool) where
  -- the entry doesn't come before the other
  abbrev pub IsPassed : X → X → Type 0
  IsPassed x z = le (see x) (see z) ≡ false

  insert_past : (x : X) (front : List X) (rest : List Y) → Every (IsPassed x) front →
      insert_by le (see x) (map see front ++ rest) ≡ map see front ++ insert_by le (see x) rest
  insert_past x [] rest a = refl
  insert_past x (z ∷ front) rest a =
      (λ i. cond (a.0 i) (see x ∷ see z ∷ (map see front ++ rest)) (see z ∷ insert_by le (see x) (map see front ++ rest)))
      ∙ ap (λ (l : List Y). see z ∷ l) (insert_past x front rest a.1)

  -- where the search for the place of an entry stopped, going down in a list in falling order
  abbrev pub IsPlace : List X → X → ℕ → Type 0
  IsPlace falling x at = (at ≤ length falling) × Every (IsPassed x) (drop at falling)

  parts : (falling : List X) (x : X) (at : ℕ) → map see (reverse (insert falling at x)) ≡ map see (reverse (drop at falling)) ++ (see x ∷ map see (reverse (take at falling)))
  parts falling x at =
      ap (map see) (reverse-append (take at falling) (x ∷ drop at falling) ∙ ap (λ (l : List X). l ++ reverse (take at falling)) (reverse-append (x ∷ []) (drop at falling)))
      ∙ ap (map see) (append_assoc (reverse (drop at falling)) (x ∷ []) (reverse (take at falling)))
      ∙ map-append see (reverse (drop at falling)) (x ∷ reverse (take at falling))

  whole : (falling : List X) (at : ℕ) → map see (reverse falling) ≡ map see (reverse (drop at falling)) ++ map see (reverse (take at falling))
  whole falling at =
      ap (λ (l : List X). map see (reverse l)) (sym (take-append-drop at falling))
      ∙ ap (map see) (reverse-append (take at falling) (drop at falling))
      ∙ map-append see (reverse (drop at falling)) (reverse (take at falling))

  put : (falling : List X) (x : X) (at : ℕ) → IsPlace falling x at → insert_by le (see x) (map see (reverse (take at falling))) ≡ see x ∷ map see (reverse (take at falling)) →
      map see (reverse (insert falling at x)) ≡ insert_by le (see x) (map see (reverse falling))
  put falling x at h first =
      parts falling x at
      ∙ ap (λ (l : List Y). map see (reverse (drop at falling)) ++ l) (sym first)
      ∙ sym (insert_past x (reverse (drop at falling)) (map see (reverse (take at falling))) (Every-reverse (IsPassed x) (drop at falling) h.1))
      ∙ ap (insert_by le (see x)) (sym (whole falling at))

  pub put-first : (falling : List X) (x : X) (at : ℕ) → at ≡ 0 → IsPlace falling x at →
      map see (reverse (insert falling at x)) ≡ insert_by le (see x) (map see (reverse falling))
  put-first falling x at none h =
      put falling x at h (subst (λ (n : ℕ). insert_by le (see x) (map see (reverse (take n falling))) ≡ see x ∷ map see (reverse (take n falling))) (sym none) refl)

  pub put-behind : (falling : List X) (x z : X) (at : ℕ) → 0 < at → z ≡ get_or falling (at - 1) z → le (see x) (see z) ≡ true → IsPlace falling x at →
      map see (reverse (insert falling at x)) ≡ insert_by le (see x) (map see (reverse falling))
  put-behind falling x z at some is comes h = put falling x at h first where
    next : at - 1 + 1 ≡ at
    next = omega arith

    ends : reverse (take at falling) ≡ z ∷ reverse (take (at - 1) falling)
    ends =
        ap (λ (n : ℕ). reverse (take n falling)) (sym next)
        ∙ ap reverse (take_more falling (at - 1) z (omega (arith, h.0)) ∙ ap (λ (w : X). take (at - 1) falling ++ w ∷ []) (sym is))
        ∙ reverse-append (take (at - 1) falling) (z ∷ [])

    first : insert_by le (see x) (map see (reverse (take at falling))) ≡ see x ∷ map see (reverse (take at falling))
    first =
        ap (λ (l : List X). insert_by le (see x) (map see l)) ends
        ∙ (λ i. cond (comes i) (see x ∷ see z ∷ map see (reverse (take (at - 1) falling))) (see z ∷ insert_by le (see x) (map see (reverse (take (at - 1) falling)))))
        ∙ ap (λ (l : List X). see x ∷ map see l) (sym ends)

  -- entries that were moved, from the last to the first
  pub sorted-down : (move : X → Y) (entries : List X) (i : ℕ) (old new : List X) (x z : X) → 0 < i → i ≤ length entries → z ≡ get_or entries (i - 1) z → see x ≡ move z →
      map see (reverse old) ≡ sort_by le (map move (drop i entries)) → map see (reverse new) ≡ insert_by le (see x) (map see (reverse old)) →
      map see (reverse new) ≡ sort_by le (map move (drop (i - 1) entries))
  sorted-down move entries i old new x z some within is same before put =
      let next : i - 1 + 1 ≡ i = omega arith in
      put
      ∙ (λ k. insert_by le (same k) (before k))
      ∙ ap (λ (l : List X). sort_by le (map move l)) (sym (drop_more entries (i - 1) z (omega (arith, within)) ∙ (λ k. sym is k ∷ drop (next k) entries)))

  -- one more, after those that it doesn't come before
  pub inserted-at : (x : X) (xs : List X) →
      map see (take (prefix_len (λ z. not (le (see x) (see z))) xs) xs ++ (x ∷ drop (prefix_len (λ z. not (le (see x) (see z))) xs) xs)) ≡ insert_by le (see x) (map see xs)
  inserted-at x [] = refl
  inserted-at x (z ∷ xs) = go (le (see x) (see z)) (inserted-at x xs) where
    n : ℕ
    n = prefix_len (λ z. not (le (see x) (see z))) xs

    more : (take (1 + n) (z ∷ xs) ++ (x ∷ drop (1 + n) (z ∷ xs))) ≡ z ∷ (take n xs ++ (x ∷ drop n xs))
    more = let e : 1 + n ≡ suc n = omega arith in λ i. take (e i) (z ∷ xs) ++ (x ∷ drop (e i) (z ∷ xs))

    go : (b : Bool) → map see (take n xs ++ (x ∷ drop n xs)) ≡ insert_by le (see x) (map see xs) →
        map see (take (cond (not b) (1 + n) 0) (z ∷ xs) ++ (x ∷ drop (cond (not b) (1 + n) 0) (z ∷ xs)))
        ≡ cond b (see x ∷ see z ∷ map see xs) (see z ∷ insert_by le (see x) (map see xs))
    go true e = refl
    go false e = ap (map see) more ∙ ap (λ (l : List Y). see z ∷ l) e

-- a list of copies, one by one
pub copied-more : {X Y : Type 0} (see : X → Y) (old xs copies copies' : List X) (i : ℕ) (z x : X) → i < length xs → get_or xs i z ≡ z → see x ≡ see z →
    map see copies ≡ map see old ++ map see (take i xs) → copies' ≡ copies ++ x ∷ [] → map see copies' ≡ map see old ++ map see (take (i + 1) xs)
copied-more {X} {Y} see old xs copies copies' i z x lt is same before pushed =
    ap (map see) pushed
    ∙ map-append see copies (x ∷ [])
    ∙ (λ k. before k ++ same k ∷ [])
    ∙ append_assoc (map see old) (map see (take i xs)) (see z ∷ [])
    ∙ ap (λ (l : List Y). map see old ++ l) (sym (map-append see (take i xs) (z ∷ [])))
    ∙ ap (λ (l : List X). map see old ++ map see l) (sym (take_more xs i z lt ∙ ap (λ (w : X). take i xs ++ w ∷ []) is))

module _ {X Y : Type 0} (see : X → Y) (le : Y → Y → Bool) (keep : Y → Bool) (move : X → Y) where
  -- entries that were moved, but for those that aren't kept
  pub kept-down : (entries : List X) (i : ℕ) (old new : List X) (x z : X) → 0 < i → i ≤ length entries → z ≡ get_or entries (i - 1) z → see x ≡ move z → keep (see x) ≡ true →
      map see (reverse old) ≡ sort_by le (filter keep (map move (drop i entries))) → map see (reverse new) ≡ insert_by le (see x) (map see (reverse old)) →
      map see (reverse new) ≡ sort_by le (filter keep (map move (drop (i - 1) entries)))
  kept-down entries i old new x z some within is same passes before put =
      let next : i - 1 + 1 ≡ i = omega arith in
      let kept : keep (move z) ≡ true = ap keep (sym same) ∙ passes in
      put
      ∙ (λ k. insert_by le (same k) (before k))
      ∙ (λ k. sort_by le (cond (sym kept k) (move z ∷ filter keep (map move (drop i entries))) (filter keep (map move (drop i entries)))))
      ∙ ap (λ (l : List X). sort_by le (filter keep (map move l))) (sym (drop_more entries (i - 1) z (omega (arith, within)) ∙ (λ k. sym is k ∷ drop (next k) entries)))

  pub dropped-down : (entries : List X) (i : ℕ) (old : List X) (x z : X) → 0 < i → i ≤ length entries → z ≡ get_or entries (i - 1) z → see x ≡ move z → keep (see x) ≡ false →
      map see (reverse old) ≡ sort_by le (filter keep (map move (drop i entries))) →
      map see (reverse old) ≡ sort_by le (filter keep (map move (drop (i - 1) entries)))
  dropped-down entries i old x z some within is same fails before =
      let next : i - 1 + 1 ≡ i = omega arith in
      let dropped : keep (move z) ≡ false = ap keep (sym same) ∙ fails in
      before
      ∙ (λ k. sort_by le (cond (sym dropped k) (move z ∷ filter keep (map move (drop i entries))) (filter keep (map move (drop i entries)))))
      ∙ ap (λ (l : List X). sort_by le (filter keep (map move l))) (sym (drop_more entries (i - 1) z (omega (arith, within)) ∙ (λ k. sym is k ∷ drop (next k) entries)))

map-map : {X Y Z : Type 0} (f : X → Y) (g : Y → Z) (xs : List X) → map (λ x. g (f x)) xs ≡ map g (map f xs)
map-map f g [] = refl
map-map {X} {Y} {Z} f g (x ∷ xs) = ap (λ (l : List Z). g (f x) ∷ l) (map-map f g xs)

-- all entries were moved
pub moved-all : {X Y : Type 0} (see : X → Y) (le : Y → Y → Bool) (move : Y → Y) (entries falling moved : List X) (i : ℕ) → i ≡ 0 → moved ≡ reverse falling →
    map see (reverse falling) ≡ sort_by le (map (λ x. move (see x)) (drop i entries)) → map see moved ≡ sort_by le (map move (map see entries))
moved-all see le move entries falling moved i none turned is =
    ap (map see) turned ∙ is ∙ ap (λ (n : ℕ). sort_by le (map (λ x. move (see x)) (drop n entries))) none ∙ ap (sort_by le) (map-map see move entries)

pub kept-all : {X Y : Type 0} (see : X → Y) (le : Y → Y → Bool) (keep : Y → Bool) (move : Y → Y) (entries falling moved : List X) (i : ℕ) → i ≡ 0 → moved ≡ reverse falling →
    map see (reverse falling) ≡ sort_by le (filter keep (map (λ x. move (see x)) (drop i entries))) → map see moved ≡ sort_by le (filter keep (map move (map see entries)))
kept-all see le keep move entries falling moved i none turned is =
    ap (map see) turned ∙ is ∙ ap (λ (n : ℕ). sort_by le (filter keep (map (λ x. move (see x)) (drop n entries)))) none
    ∙ ap (λ (l : List _). sort_by le (filter keep l)) (map-map see move entries)

-- one more was put after those that it doesn't come before
pub added-at : {X Y : Type 0} (see : X → Y) (le : Y → Y → Bool) (x : X) (xs front behind added : List X) (n : ℕ) → n ≡ prefix_len (λ z. not (le (see x) (see z))) xs →
    map see front ≡ map see [] ++ map see (take n xs) → behind ≡ front ++ x ∷ [] → map see added ≡ map see behind ++ map see (drop n xs) →
    map see added ≡ insert_by le (see x) (map see xs)
added-at {X} {Y} see le x xs front behind added n is before pushed after =
    after
    ∙ ap (λ (l : List X). map see l ++ map see (drop n xs)) pushed
    ∙ ap (λ (l : List Y). l ++ map see (drop n xs)) (map-append see front (x ∷ []) ∙ ap (λ (l : List Y). l ++ see x ∷ []) before)
    ∙ append_assoc (map see (take n xs)) (see x ∷ []) (map see (drop n xs))
    ∙ sym (map-append see (take n xs) (x ∷ drop n xs))
    ∙ ap (λ (k : ℕ). map see (take k xs ++ (x ∷ drop k xs))) is
    ∙ inserted-at see le x xs

-- all from a place on
pub rest-is : {X : Type 0} (n : ℕ) (xs : List X) → take (length xs - n) (drop n xs) ≡ drop n xs
rest-is n xs = take_all (length xs - n) (drop n xs) (omega (arith, length-drop n xs))

-- the same, whatever is read past the end
module _ {X Y : Type 0} (see : X → Y) (le : Y → Y → Bool) (keep : Y → Bool) (move : X → Y) where
  own : (entries : List X) (i : ℕ) (d : X) → i < length entries → get_or entries i d ≡ get_or entries i (get_or entries i d)
  own entries i d lt = get_or_default entries i d (get_or entries i d) lt

  pub kept-at : (entries : List X) (i : ℕ) (old new : List X) (x d : X) → 0 < i → i ≤ length entries → see x ≡ move (get_or entries (i - 1) d) → keep (see x) ≡ true →
      map see (reverse old) ≡ sort_by le (filter keep (map move (drop i entries))) → map see (reverse new) ≡ insert_by le (see x) (map see (reverse old)) →
      map see (reverse new) ≡ sort_by le (filter keep (map move (drop (i - 1) entries)))
  kept-at entries i old new x d some within same passes before put =
      kept-down see le keep move entries i old new x (get_or entries (i - 1) d) some within (own entries (i - 1) d (omega (arith, some, within))) same passes before put

  pub dropped-at : (entries : List X) (i : ℕ) (old : List X) (x d : X) → 0 < i → i ≤ length entries → see x ≡ move (get_or entries (i - 1) d) → keep (see x) ≡ false →
      map see (reverse old) ≡ sort_by le (filter keep (map move (drop i entries))) →
      map see (reverse old) ≡ sort_by le (filter keep (map move (drop (i - 1) entries)))
  dropped-at entries i old x d some within same fails before =
      dropped-down see le keep move entries i old x (get_or entries (i - 1) d) some within (own entries (i - 1) d (omega (arith, some, within))) same fails before
