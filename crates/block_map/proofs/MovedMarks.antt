-- Marks that a replacement of the text doesn't meet keep their places.
use Rattle.std.proofs.Common.{◌≡◌, ℕ, zero, suc, ◌+◌, ◌<◌, ◌≤◌, ◌&&◌, Bool, true, false, cond, nat_le, List, [], ◌∷◌, Some, map, refl, sym, ap, subst, ◌∙◌, arith, inl, inr, ◌⊎◌}
use Rattle.std.specs.List.{slice_get}
use Rattle.std.proofs.lemmas.Bool.{cases_lt, false≢true}
use Rattle.std.proofs.lemmas.Bool.Decides.{nat_tests}
use Rattle.cell_units.specs.declared.place.Shift.{Shift}
use Rattle.cell_units.specs.Record.{bias_rank, in_order}
use Rattle.cell_units.specs.Sorting.{insert_by, sort_by}
use Rattle.cell_units.specs.Anchor.{move}
use Rattle.mark_tree.specs.declared.mark.Mark.{Mark}
use Rattle.mark_tree.specs.Marks.{is_met, mark_le, move_mark, moved_marks}
use Rattle.mark_tree.proofs.Moved.{move-before, move-behind, move-within}
use Rattle.mark_tree.proofs.Order.{in_order-below, in_order-cases, in_order-same}
use Rattle.mark_tree.proofs.Sorting.{Every, IsSorted, every-sort}

-- an offset that isn't met is before the replaced bytes or after them
pub unmet-cases : (a b o : ℕ) → (nat_le a o && nat_le o b) ≡ false → (o < a) ⊎ (b < o)
unmet-cases a b o e = elim (cases_lt o a) [
  | inl lt ↦ inl lt
  | inr ge ↦ elim (cases_lt b o) [
    | inl lt ↦ inr lt
    | inr le ↦ absurd (false≢true (sym e ∙ both ge le))
  ]
] where
  both : a ≤ o → o ≤ b → (nat_le a o && nat_le o b) ≡ true
  both x y = grind (arith, nat_tests)

module _ {X : Type 0} (le : X → X → Bool) where
  insert-first : (x : X) (ys : List X) → Every (λ y. le x y ≡ true) ys → insert_by le x ys ≡ x ∷ ys
  insert-first x [] a = refl
  insert-first x (y ∷ ys) a = ap (λ (b : Bool). cond b (x ∷ y ∷ ys) (y ∷ insert_by le x ys)) a.0

  insert-before : (x y : X) (ys : List X) (k : ℕ) → slice_get ys k ≡ Some y → le x y ≡ true → slice_get (insert_by le x ys) (suc k) ≡ Some y
  insert-before x y [] zero e t = absurd (cc)
  insert-before x y [] (suc k) e t = absurd (cc)
  insert-before x y (z ∷ zs) zero e t =
      let f : z ≡ y = cc in
      ap (λ (b : Bool). slice_get (cond b (x ∷ z ∷ zs) (z ∷ insert_by le x zs)) 1) (ap (le x) f ∙ t) ∙ e
  insert-before x y (z ∷ zs) (suc k) e t = go (le x z) (insert-before x y zs k e t) where
    go : (b : Bool) → slice_get (insert_by le x zs) (suc k) ≡ Some y → slice_get (cond b (x ∷ z ∷ zs) (z ∷ insert_by le x zs)) (suc (suc k)) ≡ Some y
    go true r = e
    go false r = r

module _ {P : Type 0} (s : Shift) where
  -- both before or both after: the order stays
  abbrev rest_le : Mark P → Mark P → Bool
  rest_le m n = in_order (bias_rank m.bias) (bias_rank n.bias) (nat_le m.id n.id)

  moved_to : Mark P → ℕ
  moved_to m = move m.offset m.bias s.start s.end s.count

  both-before : (m n : Mark P) → m.offset < s.start → n.offset < s.start → mark_le m n ≡ true → mark_le (move_mark s m) (move_mark s n) ≡ true
  both-before m n a b le =
      let x = move-before m.offset m.bias s.start s.end s.count a in
      let y = move-before n.offset n.bias s.start s.end s.count b in
      (λ i. in_order (x i) (y i) (rest_le m n)) ∙ le

  both-behind : (m n : Mark P) → s.end < m.offset → s.end < n.offset → mark_le m n ≡ true → mark_le (move_mark s m) (move_mark s n) ≡ true
  both-behind m n a b le =
      let x = move-behind m.offset m.bias s.start s.end s.count s.ordered a in
      let y = move-behind n.offset n.bias s.start s.end s.count s.ordered b in
      elim (in_order-cases m.offset n.offset (rest_le m n) le) [
        | inl lt ↦ in_order-below (move m.offset m.bias s.start s.end s.count) (move n.offset n.bias s.start s.end s.count) (rest_le m n) (omega (arith, x, y, lt, s.ordered))
        | inr e ↦ in_order-same (move m.offset m.bias s.start s.end s.count) (move n.offset n.bias s.start s.end s.count) (rest_le m n) (omega (arith, x, y, e.0)) e.1
      ]

  least : (m : Mark P) → s.start ≤ m.offset → s.start ≤ move m.offset m.bias s.start s.end s.count
  least m a = elim (cases_lt s.end m.offset) [
    | inl lt ↦ omega (arith, move-behind m.offset m.bias s.start s.end s.count s.ordered lt, lt, s.ordered)
    | inr le ↦ (move-within m.offset m.bias s.start s.end s.count a le).0
  ]

  most : (m : Mark P) → m.offset ≤ s.end → move m.offset m.bias s.start s.end s.count ≤ s.start + s.count
  most m b = elim (cases_lt m.offset s.start) [
    | inl lt ↦ omega (arith, move-before m.offset m.bias s.start s.end s.count lt, lt)
    | inr ge ↦ (move-within m.offset m.bias s.start s.end s.count ge b).1
  ]

  order-le : (m n : Mark P) → mark_le m n ≡ true → m.offset ≤ n.offset
  order-le m n le = elim (in_order-cases m.offset n.offset (rest_le m n) le) [
    | inl lt ↦ omega (arith, lt)
    | inr e ↦ omega (arith, e.0)
  ]

  -- one that isn't met stays before those after it
  first-unmet : (m n : Mark P) → is_met s m ≡ false → mark_le m n ≡ true → mark_le (move_mark s m) (move_mark s n) ≡ true
  first-unmet m n un le =
      let low = order-le m n le in
      elim (unmet-cases s.start s.end m.offset un) [
        | inl lt ↦ elim (cases_lt n.offset s.start) [
          | inl less ↦ both-before m n lt less le
          | inr ge ↦ in_order-below (move m.offset m.bias s.start s.end s.count) (move n.offset n.bias s.start s.end s.count) (rest_le m n) (omega (arith, move-before m.offset m.bias s.start s.end s.count lt, lt, least n ge))
        ]
        | inr lt ↦ both-behind m n lt (omega (arith, lt, low)) le
      ]

  -- and after those before it
  second-unmet : (m n : Mark P) → is_met s n ≡ false → mark_le m n ≡ true → mark_le (move_mark s m) (move_mark s n) ≡ true
  second-unmet m n un le =
      let low = order-le m n le in
      elim (unmet-cases s.start s.end n.offset un) [
        | inl lt ↦ both-before m n (omega (arith, lt, low)) lt le
        | inr lt ↦ elim (cases_lt s.end m.offset) [
          | inl behind ↦ both-behind m n behind lt le
          | inr upto ↦ in_order-below (move m.offset m.bias s.start s.end s.count) (move n.offset n.bias s.start s.end s.count) (rest_le m n) (omega (arith, move-behind n.offset n.bias s.start s.end s.count s.ordered lt, lt, most m upto, s.ordered))
        ]
      ]

  each-behind : (m : Mark P) (ns : List (Mark P)) → is_met s m ≡ false → Every (λ n. mark_le m n ≡ true) ns → Every (λ n. mark_le (move_mark s m) n ≡ true) (map (move_mark s) ns)
  each-behind m [] un a = tt
  each-behind m (n ∷ ns) un a = (first-unmet m n un a.0, each-behind m ns un a.1)

  every-at : (Q : Mark P → Type 0) (ns : List (Mark P)) (k : ℕ) (n : Mark P) → Every Q ns → slice_get ns k ≡ Some n → Q n
  every-at Q [] zero n a e = absurd (cc)
  every-at Q [] (suc k) n a e = absurd (cc)
  every-at Q (x ∷ ns) zero n a e = let f : x ≡ n = cc in subst Q f a.0
  every-at Q (x ∷ ns) (suc k) n a e = every-at Q ns k n a.1 e

  pub moved-at : (ms : List (Mark P)) (k : ℕ) (m : Mark P) → IsSorted mark_le ms → slice_get ms k ≡ Some m → is_met s m ≡ false → slice_get (moved_marks s ms) k ≡ Some (move_mark s m)
  moved-at [] zero m sorted e un = absurd (cc)
  moved-at [] (suc k) m sorted e un = absurd (cc)
  moved-at (x ∷ ms) zero m sorted e un =
      let f : x ≡ m = cc in
      let low = every-sort mark_le (λ n. mark_le (move_mark s x) n ≡ true) (map (move_mark s) ms) (each-behind x ms (ap (is_met s) f ∙ un) sorted.0) in
      ap (λ (l : List (Mark P)). slice_get l 0) (insert-first mark_le (move_mark s x) (sort_by mark_le (map (move_mark s) ms)) low) ∙ ap (λ (n : Mark P). Some (move_mark s n)) f
  moved-at (x ∷ ms) (suc k) m sorted e un =
      insert-before mark_le (move_mark s x) (move_mark s m) (sort_by mark_le (map (move_mark s) ms)) k (moved-at ms k m sorted.1 e un)
      (second-unmet x m un (every-at (λ n. mark_le x n ≡ true) ms k m sorted.0 e))
