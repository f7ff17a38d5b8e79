-- Places that are gathered: ranges of places, those of a replacement's marks, of blocks that aren't shown yet, and of
-- edited lines.
use Rattle.std.proofs.Common.{◌≡◌, ℕ, zero, suc, ◌+◌, ◌-◌, ◌<◌, ◌≤◌, ◌&&◌, not, nat_le, Bool, true, false, cond, eqb, List, [], ◌∷◌, ◌++◌, Option, Some, None, length, map, filter, refl, sym, ap, subst, ◌∙◌, arith, inl, inr, ◌⊎◌}
use Rattle.std.specs.List.{All, Contains, dedup, position_or_len, slice_get, slice_index}
use Rattle.std.specs.List.Sorted.{IsPermutation, IsSorted, IsStrictlyIncreasing}
use Rattle.std.specs.Ordering.{nat_cmp}
use Rattle.std.proofs.lemmas.Bool.{cases_lt, eqb-true, eq-eqb, false≢true, le-leb, leb-true}
use Rattle.std.proofs.lemmas.Bool.Decides.{nat_tests}
use Rattle.std.proofs.lemmas.List.Filters.{All-dedup}
use Rattle.std.proofs.lemmas.List.Kept.{Contains-dedup_nat, Contains-from_dedup}
use Rattle.std.proofs.lemmas.List.Elements.{All-push, Contains-append_left, Contains-append_right, Contains-push_cases}
use Rattle.std.proofs.lemmas.List.Sorted.{All-permutation, Contains-permutation, IsPermutation-sym}
use Rattle.std.proofs.lemmas.Map.Keys.{IsStrictlyIncreasing-dedup}
use Rattle.cell_units.specs.declared.place.Bias.TheVariants.{Right}
use Rattle.cell_units.specs.declared.place.Shift.{Shift}
use Rattle.cell_units.specs.declared.place.Side.{Side}
use Rattle.cell_units.specs.declared.place.Side.TheVariants.{Above, Below}
use Rattle.cell_units.specs.Record.{bias_rank, in_order}
use Rattle.cell_units.specs.Rows.{HaveRows, line_rows, rows_before}
use Rattle.edit_patch.specs.declared.edit.Edit.{Edit}
use Rattle.mark_tree.specs.declared.mark.Mark.{Mark}
use Rattle.mark_tree.specs.Marks.{is_met, is_not_before, mark_le}
use Rattle.mark_tree.proofs.Order.{in_order-cases}
use Rattle.mark_tree.proofs.Sorting as sorting
use Rattle.mark_tree.proofs.Sorting.{AreFresh, Every, IsFresh, Member, contains-from_member, member-from_contains}
use Rattle.sum_core.specs.declared.load.NoLoad.{NoLoad}
use Rattle.block_map.specs.Maps.{row_at_line}
use Rattle.block_map.specs.Stops.{Stop}
use Rattle.block_map.specs.inside.Anew.{Grows, IsBlankAt, IsEditedAt, IsIn, IsMetAt, IsOfLine}
use Rattle.block_map.specs.inside.SideMoves.{IsUnmet, LeaveCarried, MayBeCarried}
use Rattle.block_map.specs.inside.Sides.{ArePaired, BlockMark, anchor_of, is_unshown, kept, kept_of, unshown_anchors}
use Rattle.block_map.specs.inside.Without.{IsRising}
use Rattle.block_map.proofs.LineStarts.{rows_before-next, rows_before-rises}
use Rattle.block_map.proofs.SideStops.{pair-at}

-- ---- a range

pub grows-none : (n from : ℕ) (xs : List ℕ) → Grows n (IsIn from from) (IsIn from from) xs xs
grows-none n from xs = record { kept = λ k c. c; more = λ k p. absurd (omega (arith, p.0, p.1)); only = λ k c. inl c; within = λ w. w }

pub grows-next : (n from next : ℕ) (xs ys zs : List ℕ) → from ≤ next → next < n → zs ≡ ys ++ next ∷ [] → Grows n (IsIn from next) (IsIn from next) xs ys
    → Grows n (IsIn from (next + 1)) (IsIn from (next + 1)) xs zs
grows-next n from next xs ys zs low lt is g =
    subst (Grows n (IsIn from (next + 1)) (IsIn from (next + 1)) xs) (sym is)
    (record {
      kept = λ k c. Contains-append_left ys (next ∷ []) k (g.kept k c);
      more = λ k p. here k p (cases_lt k next);
      only = λ k c. split k (Contains-push_cases ys next k c);
      within = λ w. All-push (λ a. a < n) ys next (g.within w) lt;
    }) where
      here : (k : ℕ) → IsIn from (next + 1) k → (k < next) ⊎ (next ≤ k) → Contains (ys ++ next ∷ []) k
      here k p (inl less) = Contains-append_left ys (next ∷ []) k (g.more k (p.0, less))
      here k p (inr ge) =
          let e : next ≡ k = omega (arith, ge, p.1) in
          Contains-append_right ys (next ∷ []) k (contains-from_member k (next ∷ []) (inl e))

      later : (k : ℕ) → Contains xs k ⊎ IsIn from next k → Contains xs k ⊎ IsIn from (next + 1) k
      later k (inl c) = inl c
      later k (inr p) = inr (p.0, omega (arith, p.1))

      split : (k : ℕ) → Contains ys k ⊎ (next ≡ k) → Contains xs k ⊎ IsIn from (next + 1) k
      split k (inl c) = later k (g.only k c)
      split k (inr e) = inr (omega (arith, low, e), omega (arith, e))

pub grows-done : (n from to next : ℕ) (xs ys : List ℕ) → (from < next → next ≤ to) → to ≤ next → Grows n (IsIn from next) (IsIn from next) xs ys → Grows n (IsIn from to) (IsIn from to) xs ys
grows-done n from to next xs ys bound le g = record {
  kept = g.kept;
  more = λ k p. g.more k (p.0, omega (arith, p.1, le));
  only = λ k c. done k (g.only k c);
  within = g.within;
} where
  done : (k : ℕ) → Contains xs k ⊎ IsIn from next k → Contains xs k ⊎ IsIn from to k
  done k (inl c) = inl c
  done k (inr p) = inr (p.0, omega (arith, p.1, bound (omega (arith, p.0, p.1))))

pub grows-weaker : (n : ℕ) (P Q P' Q' : ℕ → Type 0) (xs ys : List ℕ) → ((k : ℕ) → P' k → P k) → ((k : ℕ) → Q k → Q' k) → Grows n P Q xs ys → Grows n P' Q' xs ys
grows-weaker n P Q P' Q' xs ys f h g = record { kept = g.kept; more = λ k q. g.more k (f k q); only = λ k c. turn k (g.only k c); within = g.within } where
  turn : (k : ℕ) → Contains xs k ⊎ Q k → Contains xs k ⊎ Q' k
  turn k (inl c) = inl c
  turn k (inr q) = inr (h k q)

-- ---- in order

rise-from : (from : ℕ) (xs : List ℕ) → (0 < length xs → from ≤ slice_index xs 0) → IsStrictlyIncreasing xs → IsRising from xs
rise-from from [] low inc = tt
rise-from from (x ∷ xs) low inc = (low (omega arith), rise-from (x + 1) xs (λ lt. let i = inc 0 (omega (arith, lt)) in omega (arith, i)) (λ k lt. next k (inc (suc k) (omega (arith, lt))))) where
  next : (k : ℕ) → slice_index (x ∷ xs) (suc k) < slice_index (x ∷ xs) (suc k + 1) → slice_index xs k < slice_index xs (k + 1)
  next k e = let one : suc k + 1 ≡ suc (k + 1) = omega arith in subst (λ (n : ℕ). slice_index xs k < slice_index (x ∷ xs) n) one e

-- what sorting and leaving out repetitions make
pub record InOrder (old new : List ℕ) : Type 0 where
  pub rising : IsRising 0 new
  pub kept : (k : ℕ) → Contains old k → Contains new k
  pub only : (k : ℕ) → Contains new k → Contains old k
  pub within : (n : ℕ) → All (λ a. a < n) old → All (λ a. a < n) new

pub in-order : (old mid new : List ℕ) → IsPermutation old mid → IsSorted nat_cmp mid → new ≡ dedup eqb mid → InOrder old new
in-order old mid new permuted sorted is = subst (InOrder old) (sym is) (record {
  rising = rise-from 0 (dedup eqb mid) (λ lt. omega arith) (IsStrictlyIncreasing-dedup mid sorted);
  kept = λ k c. Contains-dedup_nat mid k (Contains-permutation old mid k permuted c);
  only = λ k c. Contains-permutation mid old k (IsPermutation-sym old mid permuted) (Contains-from_dedup eqb mid k c);
  within = λ n w. All-dedup eqb (λ a. a < n) mid (All-permutation (λ a. a < n) old mid permuted w);
})

-- ---- the first that passes

module _ {X : Type 0} (p : X → Bool) where
  pub first-upto : (xs : List X) (k : ℕ) (x : X) → slice_get xs k ≡ Some x → p x ≡ true → position_or_len p xs ≤ k
  first-upto [] zero x e t = absurd (cc)
  first-upto [] (suc k) x e t = absurd (cc)
  first-upto (y ∷ ys) zero x e t =
      let f : y ≡ x = cc in
      let none : position_or_len p (y ∷ ys) ≡ 0 = ap (λ (b : Bool). cond (not b) (1 + position_or_len p ys) 0) (ap p f ∙ t) in
      omega (arith, none)
  first-upto (y ∷ ys) (suc k) x e t = go (p y) (first-upto ys k x e t) where
    go : (b : Bool) → position_or_len p ys ≤ k → cond (not b) (1 + position_or_len p ys) 0 ≤ suc k
    go true r = omega arith
    go false r = omega (arith, r)

  -- where all after one that passes pass
  pub passes-from : (xs : List X) (k : ℕ) (x : X) → ((i j : ℕ) (y z : X) → i ≤ j → slice_get xs i ≡ Some y → slice_get xs j ≡ Some z → p y ≡ true → p z ≡ true) → slice_get xs k ≡ Some x → position_or_len p xs ≤ k → p x ≡ true
  passes-from [] zero x on e le = absurd (cc)
  passes-from [] (suc k) x on e le = absurd (cc)
  passes-from (y ∷ ys) k x on e le = go (p y) refl (λ j e le. passes-from ys j x (λ i j y z le a b t. on (suc i) (suc j) y z (omega (arith, le)) a b t) e le) where
    go : (b : Bool) → p y ≡ b → ((j : ℕ) → slice_get ys j ≡ Some x → position_or_len p ys ≤ j → p x ≡ true) → p x ≡ true
    go true t f = on 0 k y x (omega arith) refl e t
    go false t f = rest k e (subst (λ (b : Bool). cond (not b) (1 + position_or_len p ys) 0 ≤ k) t le) f where
      rest : (k : ℕ) → slice_get (y ∷ ys) k ≡ Some x → 1 + position_or_len p ys ≤ k → ((j : ℕ) → slice_get ys j ≡ Some x → position_or_len p ys ≤ j → p x ≡ true) → p x ≡ true
      rest zero e le f = absurd (omega (arith, le))
      rest (suc k) e le f = f k e (omega (arith, le))

-- ---- marks in order

order-le : {P : Type 0} (m n : Mark P) → mark_le m n ≡ true → m.offset ≤ n.offset
order-le m n e = go (in_order-cases m.offset n.offset _ e) where
  go : {A : Type 0} → (m.offset < n.offset) ⊎ ((m.offset ≡ n.offset) × A) → m.offset ≤ n.offset
  go (inl lt) = omega (arith, lt)
  go (inr e) = omega (arith, e.0)

every-at : {X : Type 0} (Q : X → Type 0) (xs : List X) (k : ℕ) (x : X) → Every Q xs → slice_get xs k ≡ Some x → Q x
every-at Q [] zero x a e = absurd (cc)
every-at Q [] (suc k) x a e = absurd (cc)
every-at Q (y ∷ ys) zero x a e = let f : y ≡ x = cc in subst Q f a.0
every-at Q (y ∷ ys) (suc k) x a e = every-at Q ys k x a.1 e

pub offsets-rise : (ms : List BlockMark) → sorting.IsSorted mark_le ms → (i j : ℕ) (m n : BlockMark) → i ≤ j → slice_get ms i ≡ Some m → slice_get ms j ≡ Some n → m.offset ≤ n.offset
offsets-rise [] s zero j m n le e f = absurd (cc)
offsets-rise [] s (suc i) j m n le e f = absurd (cc)
offsets-rise (x ∷ ms) s zero zero m n le e f = let a : x ≡ m = cc in let b : x ≡ n = cc in omega (arith, ap (λ (m : BlockMark). m.offset) a, ap (λ (m : BlockMark). m.offset) b)
offsets-rise (x ∷ ms) s zero (suc j) m n le e f =
    let a : x ≡ m = cc in
    omega (arith, ap (λ (m : BlockMark). m.offset) a, order-le x n (every-at (λ y. mark_le x y ≡ true) ms j n s.0 f))
offsets-rise (x ∷ ms) s (suc i) zero m n le e f = absurd (omega (arith, le))
offsets-rise (x ∷ ms) s (suc i) (suc j) m n le e f = offsets-rise ms s.1 i j m n (omega (arith, le)) e f

-- those that a replacement meets go from the first at its start to the first after its end
pub met-run : (s : Shift) (ms : List BlockMark) → sorting.IsSorted mark_le ms → (k : ℕ) → IsMetAt (Some s) ms k
    → IsIn (position_or_len (λ m. nat_le s.start m.offset) ms) (position_or_len (λ m. nat_le (s.end + 1) m.offset) ms) k
met-run s ms sorted k at =
    let m = at.0 in
    let both = met-parts s.start s.end m.offset at.2 in (
      first-upto (λ m. nat_le s.start m.offset) ms k m at.1 (le-leb s.start m.offset both.0),
      low (cases_lt k (position_or_len (λ m. nat_le (s.end + 1) m.offset) ms)) (both.1),
    ) where
      met-parts : (a b o : ℕ) → (nat_le a o && nat_le o b) ≡ true → (a ≤ o) × (o ≤ b)
      met-parts a b o e = grind (arith, nat_tests)

      on : (i j : ℕ) (y z : BlockMark) → i ≤ j → slice_get ms i ≡ Some y → slice_get ms j ≡ Some z → nat_le (s.end + 1) y.offset ≡ true → nat_le (s.end + 1) z.offset ≡ true
      on i j y z le a b t = le-leb (s.end + 1) z.offset (omega (arith, offsets-rise ms sorted i j y z le a b, leb-true (s.end + 1) y.offset t))

      low : (k < position_or_len (λ m. nat_le (s.end + 1) m.offset) ms) ⊎ (position_or_len (λ m. nat_le (s.end + 1) m.offset) ms ≤ k) → at.0.offset ≤ s.end → k < position_or_len (λ m. nat_le (s.end + 1) m.offset) ms
      low (inl lt) le = lt
      low (inr ge) le = absurd (omega (arith, le, leb-true (s.end + 1) at.0.offset (passes-from (λ m. nat_le (s.end + 1) m.offset) ms k at.0 on at.1 ge)))

-- and no others are there
pub met-only : (s : Shift) (ms : List BlockMark) → sorting.IsSorted mark_le ms → (k : ℕ) (m : BlockMark) → slice_get ms k ≡ Some m
    → IsIn (position_or_len (λ m. nat_le s.start m.offset) ms) (position_or_len (λ m. nat_le (s.end + 1) m.offset) ms) k → IsMetAt (Some s) ms k
met-only s ms sorted k m there p = (m, there, both s.start s.end m.offset (leb-true s.start m.offset from) (to (cases_lt s.end m.offset))) where
  both : (a b o : ℕ) → a ≤ o → o ≤ b → (nat_le a o && nat_le o b) ≡ true
  both a b o e f = grind (arith, nat_tests)

  on : (i j : ℕ) (y z : BlockMark) → i ≤ j → slice_get ms i ≡ Some y → slice_get ms j ≡ Some z → nat_le s.start y.offset ≡ true → nat_le s.start z.offset ≡ true
  on i j y z le a b t = le-leb s.start z.offset (omega (arith, offsets-rise ms sorted i j y z le a b, leb-true s.start y.offset t))

  from : nat_le s.start m.offset ≡ true
  from = passes-from (λ m. nat_le s.start m.offset) ms k m on there p.0

  to : (s.end < m.offset) ⊎ (m.offset ≤ s.end) → m.offset ≤ s.end
  to (inl lt) = absurd (omega (arith, p.1, first-upto (λ m. nat_le (s.end + 1) m.offset) ms k m there (le-leb (s.end + 1) m.offset (omega (arith, lt)))))
  to (inr le) = le

-- ---- the place of a mark by its order

same-id : (m n : BlockMark) → mark_le m n ≡ true → mark_le n m ≡ true → m.id ≡ n.id
same-id m n a b =
    elim (in_order-cases m.offset n.offset _ a) [
      | inl lt ↦ absurd (omega (arith, lt, order-le n m b))
      | inr e ↦ elim (in_order-cases n.offset m.offset _ b) [
        | inl lt ↦ absurd (omega (arith, lt, e.0))
        | inr f ↦ elim (in_order-cases (bias_rank m.bias) (bias_rank n.bias) (nat_le m.id n.id) e.1) [
          | inl lt ↦ elim (in_order-cases (bias_rank n.bias) (bias_rank m.bias) (nat_le n.id m.id) f.1) [
            | inl lt' ↦ absurd (omega (arith, lt, lt'))
            | inr g ↦ absurd (omega (arith, lt, g.0))
          ]
          | inr g ↦ elim (in_order-cases (bias_rank n.bias) (bias_rank m.bias) (nat_le n.id m.id) f.1) [
            | inl lt ↦ absurd (omega (arith, lt, g.0))
            | inr h ↦ omega (arith, leb-true m.id n.id g.1, leb-true n.id m.id h.1)
          ]
        ]
      ]
    ]

own-order : (m : BlockMark) → m.bias ≡ Right → is_not_before m.offset Right m.id m ≡ true
own-order m e = (λ i. in_order m.offset m.offset (in_order 1 (bias_rank (e i)) (nat_le m.id m.id))) ∙ go m.offset m.id where
  go : (o id : ℕ) → in_order o o (in_order 1 1 (nat_le id id)) ≡ true
  go o id = grind (arith, nat_tests)

pub place-at : (ms : List BlockMark) (k : ℕ) (m : BlockMark) → sorting.IsSorted mark_le ms → AreFresh (λ (m : BlockMark). m.id) ms → slice_get ms k ≡ Some m → m.bias ≡ Right
    → position_or_len (is_not_before m.offset Right m.id) ms ≡ k
place-at [] zero m s f e b = absurd (cc)
place-at [] (suc k) m s f e b = absurd (cc)
place-at (x ∷ ms) zero m s f e b =
    let g : x ≡ m = cc in
    ap (λ (t : Bool). cond (not t) (1 + position_or_len (is_not_before m.offset Right m.id) ms) 0) (ap (is_not_before m.offset Right m.id) g ∙ own-order m b)
place-at (x ∷ ms) (suc k) m s f e b =
    let before = every-at (λ y. mark_le x y ≡ true) ms k m s.0 e in
    let not-this : is_not_before m.offset Right m.id x ≡ false = turn (is_not_before m.offset Right m.id x) refl before in
    ap (λ (t : Bool). cond (not t) (1 + position_or_len (is_not_before m.offset Right m.id) ms) 0) not-this
    ∙ (let r = place-at ms k m s.1 f.1 e b in omega (arith, r)) where
      as-order : is_not_before m.offset Right m.id x ≡ mark_le m x
      as-order = λ i. in_order m.offset x.offset (in_order (bias_rank (sym b i)) (bias_rank x.bias) (nat_le m.id x.id))

      turn : (t : Bool) → is_not_before m.offset Right m.id x ≡ t → mark_le x m ≡ true → t ≡ false
      turn false is before = refl
      turn true is before = absurd (every-at (λ (y : BlockMark). (y.id ≡ x.id) → ⊥) ms k m f.0 e (same-id m x (sym as-order ∙ is) before))

-- ---- blocks that aren't shown yet

pub blank-anchor : (ms : List BlockMark) (ss : List Stop) (k : ℕ) (m : BlockMark) (s : Stop) → slice_get ms k ≡ Some m → slice_get ss k ≡ Some s → s.lines ≡ []
    → (j : ℕ) × (slice_get (unshown_anchors (kept_of ms ss)) j ≡ Some (anchor_of (kept m s)))
blank-anchor [] ss zero m s e f b = absurd (cc)
blank-anchor [] ss (suc k) m s e f b = absurd (cc)
blank-anchor (n ∷ ms) [] zero m s e f b = absurd (cc)
blank-anchor (n ∷ ms) [] (suc k) m s e f b = absurd (cc)
blank-anchor (n ∷ ms) (t ∷ ss) zero m s e f b =
    let x : n ≡ m = cc in
    let y : t ≡ s = cc in
    let unshown : is_unshown (kept n t) ≡ true = ap (λ (l : List (List ℕ)). is_unshown (kept n (record { row = t.row; lines = l }))) (ap (λ (s : Stop). s.lines) y ∙ b) in
    (0, ap (λ (c : Bool). slice_get (map anchor_of (cond c (kept n t ∷ filter is_unshown (kept_of ms ss)) (filter is_unshown (kept_of ms ss)))) 0) unshown ∙ (λ i. Some (anchor_of (kept (x i) (y i)))))
blank-anchor (n ∷ ms) (t ∷ ss) (suc k) m s e f b = go (is_unshown (kept n t)) (blank-anchor ms ss k m s e f b) where
  go : (c : Bool) → (j : ℕ) × (slice_get (unshown_anchors (kept_of ms ss)) j ≡ Some (anchor_of (kept m s)))
      → (j : ℕ) × (slice_get (map anchor_of (cond c (kept n t ∷ filter is_unshown (kept_of ms ss)) (filter is_unshown (kept_of ms ss)))) j ≡ Some (anchor_of (kept m s)))
  go true r = (suc r.0, r.1)
  go false r = (r.0, r.1)

-- An anchor is that of a mark at a place, of which nothing is shown.
pub record IsAnchorOf (ms : List BlockMark) (ss : List Stop) (a : Mark NoLoad) (k : ℕ) : Type 0 where
  pub mark : BlockMark
  pub stop : Stop
  pub mark_there : slice_get ms k ≡ Some mark
  pub stop_there : slice_get ss k ≡ Some stop
  pub unshown : is_unshown (kept mark stop) ≡ true
  pub offset : mark.offset ≡ a.offset
  pub id : mark.id ≡ a.id

pub anchor-mark : (ms : List BlockMark) (ss : List Stop) (j : ℕ) (a : Mark NoLoad) → slice_get (unshown_anchors (kept_of ms ss)) j ≡ Some a → (k : ℕ) × IsAnchorOf ms ss a k
anchor-mark [] ss zero a e = absurd (cc)
anchor-mark [] ss (suc j) a e = absurd (cc)
anchor-mark (n ∷ ms) [] zero a e = absurd (cc)
anchor-mark (n ∷ ms) [] (suc j) a e = absurd (cc)
anchor-mark (n ∷ ms) (t ∷ ss) j a e = go (is_unshown (kept n t)) refl j e (λ j e. anchor-mark ms ss j a e) where
  later : (k : ℕ) × IsAnchorOf ms ss a k → (k : ℕ) × IsAnchorOf (n ∷ ms) (t ∷ ss) a k
  later f =
      let g = f.1 in
      (suc f.0, record { mark = g.mark; stop = g.stop; mark_there = g.mark_there; stop_there = g.stop_there; unshown = g.unshown; offset = g.offset; id = g.id })

  go : (c : Bool) → is_unshown (kept n t) ≡ c → (j : ℕ) → slice_get (map anchor_of (cond c (kept n t ∷ filter is_unshown (kept_of ms ss)) (filter is_unshown (kept_of ms ss)))) j ≡ Some a
      → ((j : ℕ) → slice_get (unshown_anchors (kept_of ms ss)) j ≡ Some a → (k : ℕ) × IsAnchorOf ms ss a k) → (k : ℕ) × IsAnchorOf (n ∷ ms) (t ∷ ss) a k
  go true is zero e r =
      let x : anchor_of (kept n t) ≡ a = cc in
      (0, record { mark = n; stop = t; mark_there = refl; stop_there = refl; unshown = is; offset = ap (λ (a : Mark NoLoad). a.offset) x; id = ap (λ (a : Mark NoLoad). a.id) x })
  go true is (suc j) e r = later (r j e)
  go false is j e r = later (r j e)

-- ---- lines of which an edit replaces a row

-- the stop is between those of the first and the last line that the edit reaches
pub edited-between : (lines : List (List (List ℕ))) (side : Side) (e : Edit) (first last line row : ℕ) → line < length lines → row < length (line_rows lines line)
    → e.old_start ≤ rows_before lines line + row → rows_before lines line + row < e.old_end
    → rows_before lines first ≤ e.old_start → e.old_end ≤ rows_before lines (last + 1)
    → (row_at_line lines side first ≤ row_at_line lines side line) × (row_at_line lines side line ≤ row_at_line lines side last)
edited-between lines side e first last line row within own low high from to =
    let next = rows_before-next lines line within in
    let lower : first ≤ line = elim (cases_lt line first) [
      | inl lt ↦ absurd (omega (arith, rows_before-rises lines (line + 1) first (omega (arith, lt)), next, own, low, from))
      | inr le ↦ le
    ] in
    let upper : line ≤ last = elim (cases_lt last line) [
      | inl lt ↦ absurd (omega (arith, rows_before-rises lines (last + 1) line (omega (arith, lt)), high, to))
      | inr le ↦ le
    ] in
    (rises side first line lower, rises side line last upper) where
      rises : (side : Side) (l m : ℕ) → l ≤ m → row_at_line lines side l ≤ row_at_line lines side m
      rises Above l m le = rows_before-rises lines l m le
      rises Below l m le = rows_before-rises lines (l + 1) (m + 1) (omega (arith, le))

rows-more : (lines : List (List (List ℕ))) (l m : ℕ) → HaveRows lines → l < m → l < length lines → rows_before lines l < rows_before lines m
rows-more lines l m have lt within = omega (arith, rows_before-next lines l within, rows_before-rises lines (l + 1) m (omega (arith, lt)), have l [] within)

-- lines in the order of what is at them
in-line-order : (lines : List (List (List ℕ))) (side : Side) (l m : ℕ) → HaveRows lines → l < length lines → m < length lines → row_at_line lines side l ≤ row_at_line lines side m → l ≤ m
in-line-order lines side l m have lw mw le = elim (cases_lt m l) [
  | inl lt ↦ absurd (below side lt le)
  | inr ge ↦ ge
] where
  below : (side : Side) → m < l → row_at_line lines side l ≤ row_at_line lines side m → ⊥
  below Above lt le = omega (arith, le, rows-more lines m l have lt mw)
  below Below lt le = omega (arith, le, rows_before-rises lines (m + 1) l (omega (arith, lt)), rows-more lines l (l + 1) have (omega arith) lw)

-- of a line between the first and the last one that the edit reaches it replaces a row
pub replaced-between : (lines : List (List (List ℕ))) (side : Side) (start end first last line : ℕ) → HaveRows lines → start < end
    → IsOfLine lines first start → IsOfLine lines last (end - 1) → line < length lines
    → row_at_line lines side first ≤ row_at_line lines side line → row_at_line lines side line ≤ row_at_line lines side last
    → (k : ℕ) × ((k < length (line_rows lines line)) × ((start ≤ rows_before lines line + k) × (rows_before lines line + k < end)))
replaced-between lines side start end first last line have some f l within low high = go (cases_lt start (rows_before lines line)) where
  lower : first ≤ line
  lower = in-line-order lines side first line have f.there within low

  upper : line ≤ last
  upper = in-line-order lines side line last have within l.there high

  own : 1 ≤ length (line_rows lines line)
  own = have line [] within

  go : (start < rows_before lines line) ⊎ (rows_before lines line ≤ start) → (k : ℕ) × ((k < length (line_rows lines line)) × ((start ≤ rows_before lines line + k) × (rows_before lines line + k < end)))
  go (inl lt) = (0, (omega (arith, own), (omega (arith, lt), omega (arith, rows_before-rises lines line last upper, l.from, some))))
  go (inr le) =
      let same : line ≤ first = elim (cases_lt first line) [
        | inl lt ↦ absurd (omega (arith, le, f.to, rows_before-next lines first f.there, rows_before-rises lines (first + 1) line (omega (arith, lt))))
        | inr ge ↦ ge
      ] in
      let is : line ≡ first = omega (arith, same, lower) in
      let size : length (line_rows lines line) ≡ length (line_rows lines first) = ap (λ (n : ℕ). length (line_rows lines n)) is in
      let start-is : rows_before lines line ≡ rows_before lines first = ap (rows_before lines) is in
      (start - rows_before lines line, (omega (arith, le, f.to, size, start-is), (omega (arith, le), omega (arith, le, some))))

-- ---- all three

contains-or : (xs : List ℕ) (k : ℕ) → Contains xs k ⊎ (Contains xs k → ⊥)
contains-or xs k = elim (member-or xs) [
  | inl m ↦ inl (contains-from_member k xs m)
  | inr n ↦ inr (λ c. n (member-from_contains k xs c))
] where
  member-or : (xs : List ℕ) → Member k xs ⊎ (Member k xs → ⊥)
  member-or [] = inr (λ m. m)
  member-or (x ∷ xs) = go (eqb x k) refl (member-or xs) where
    go : (b : Bool) → eqb x k ≡ b → Member k xs ⊎ (Member k xs → ⊥) → Member k (x ∷ xs) ⊎ (Member k (x ∷ xs) → ⊥)
    go true e r = inl (inl (eqb-true x k e))
    go false e (inl m) = inl (inr m)
    go false e (inr n) = inr (λ m. elim m [
      | inl f ↦ absurd (false≢true (sym e ∙ eq-eqb x k f))
      | inr g ↦ n g
    ])

-- what none of the three has may be carried
pub leave-carried : (shift : Option Shift) (es : List Edit) (old : List (List (List ℕ))) (side : Side) (ms : List BlockMark) (ss : List Stop) (places : List ℕ) → ArePaired ms ss
    → ((k : ℕ) → IsMetAt shift ms k → Contains places k) → ((k : ℕ) → IsBlankAt ss k → Contains places k) → ((k : ℕ) → IsEditedAt es old side ss k → Contains places k)
    → LeaveCarried shift es old side ms ss places
leave-carried shift es old side ms ss places pairs met blank edited = λ k m s e f. go k m s e f (contains-or places k) where
  unmet : (shift : Option Shift) (k : ℕ) (m : BlockMark) → slice_get ms k ≡ Some m → (IsMetAt shift ms k → ⊥) → IsUnmet shift m
  unmet None k m e no' = tt
  unmet (Some s) k m e no' = turn (is_met s m) refl where
    turn : (b : Bool) → is_met s m ≡ b → is_met s m ≡ false
    turn true is = absurd (no' (m, e, is))
    turn false is = is

  go : (k : ℕ) (m : BlockMark) (s : Stop) → slice_get ms k ≡ Some m → slice_get ss k ≡ Some s → Contains places k ⊎ (Contains places k → ⊥) → Contains places k ⊎ MayBeCarried shift es old side m s
  go k m s e f (inl c) = inl c
  go k m s e f (inr out) = inr (record {
    unmet = unmet shift k m e (λ at. out (met k at));
    shown = lines (pair-at ms ss k m s pairs e f).lines;
    kept = λ line lt at row of replaced. out (edited k (record { stop = s; line = line; row = row; there = f; within = lt; stands = at; of_line = of; replaced = replaced }));
  }) where
    lines : (s.lines ≡ m.load) ⊎ (s.lines ≡ []) → s.lines ≡ m.load
    lines (inl e) = e
    lines (inr b) = absurd (out (blank k (s, f, b)))
