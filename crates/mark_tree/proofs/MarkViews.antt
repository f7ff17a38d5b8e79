-- Lists of marks, as views of things of no length.
use Rattle.std.proofs.Common.{◌≡◌, ℕ, zero, suc, ◌+◌, ◌<◌, ◌≤◌, ◌^◌, ◌++◌, ◌==◌, ◌&&◌, ◌||◌, nat_lt, nat_le, not, Bool, true, false, cond, List, [], ◌∷◌, length, map, filter, count_by, get_or, take, drop, Some, None, position, refl, sym, ap, subst, ◌∙◌, arith}
use Rattle.std.specs.List.{All, list_any, position_or_len, slice_get}
use Rattle.std.proofs.lemmas.List.{drop-map, get_or-map, map-append, take-map}
use Rattle.std.proofs.lemmas.List.Sums.{position_or_len_is}
use Rattle.cell_units.specs.declared.place.Bias.{Bias}
use Rattle.std.proofs.lemmas.List.Elements.{All-nil, All-cons, All-head, All-tail}
use Rattle.std.proofs.lemmas.Bool.Decides.{nat_tests}
use Rattle.cell_units.specs.declared.place.Shift.{Shift}
use Rattle.cell_units.specs.Record.{in_order, bias_rank}
use Rattle.cell_units.specs.Sorting.{insert_by, sort_by}
use Rattle.mark_tree.specs.declared.entry.Placed.{Placed}
use Rattle.mark_tree.specs.declared.mark.Mark.{Mark}
use Rattle.mark_tree.specs.Entries.{end_at, IsCodable}
use Rattle.mark_tree.specs.Marks.{mark_le, has_id, is_not_before, lacks_id, move_mark, moved_marks, IsMarkList}
use Rattle.mark_tree.specs.Order.{key_le, key_of, placed_le, has_placed_id, lacks_placed_id, move_placed, moved_placed, IsPlaceFor}
use Rattle.mark_tree.specs.Views.{mark_of, AreMarks}
use Rattle.mark_tree.proofs.Sorting.{Every, count-cons, every-insert, every-sort, insert-map, sort-map}
use Rattle.mark_tree.proofs.Changing.{every-from_all, all-from_every}
use Rattle.mark_tree.proofs.Finding.{position-found, position-map, position-none}
use Rattle.mark_tree.proofs.Moved.{length-map}

level : (a b : ℕ) (r : Bool) → a ≡ 0 → b ≡ 0 → in_order a b r ≡ r
level a b r p q = go (nat_lt a b) (a == b) r (grind (arith, nat_tests)) (grind (arith, nat_tests)) where
  go : (c d e : Bool) → c ≡ false → d ≡ true → (c || (d && e)) ≡ e
  go true d e x y = absurd (cc)
  go false true true x y = refl
  go false true false x y = refl
  go false false e x y = absurd (cc)

some-same : {X : Type 0} (x y : X) → Some x ≡ Some y → x ≡ y
some-same x y e = cc

module _ {P : Type 0} where
  abbrev pub IsFlat : Placed P → Type 0
  IsFlat p = p.length ≡ 0

  le-of : (p q : Placed P) → IsFlat p → IsFlat q → placed_le p q ≡ mark_le (mark_of p) (mark_of q)
  le-of p q a b = ap (λ r. in_order p.offset q.offset (in_order (bias_rank p.bias) (bias_rank q.bias) r)) (level p.length q.length (nat_le p.id q.id) a b)

  pub insert-of : (p : Placed P) (ps : List (Placed P)) → IsFlat p → Every IsFlat ps → map mark_of (insert_by placed_le p ps) ≡ insert_by mark_le (mark_of p) (map mark_of ps)
  insert-of p ps a b = insert-map mark_of placed_le mark_le IsFlat le-of p ps a b

  pub sort-of : (ps : List (Placed P)) → Every IsFlat ps → map mark_of (sort_by placed_le ps) ≡ sort_by mark_le (map mark_of ps)
  sort-of ps a = sort-map mark_of placed_le mark_le IsFlat le-of ps a

  flat-moved : (s : Shift) (ps : List (Placed P)) → Every IsFlat ps → Every IsFlat (map (move_placed s) ps)
  flat-moved s [] a = tt
  flat-moved s (p ∷ ps) a = (a.0, flat-moved s ps a.1)

  map-of : (s : Shift) (ps : List (Placed P)) → map mark_of (map (move_placed s) ps) ≡ map (move_mark s) (map mark_of ps)
  map-of s [] = refl
  map-of s (p ∷ ps) = ap (λ l. mark_of (move_placed s p) ∷ l) (map-of s ps)

  pub moved-of : (s : Shift) (ps : List (Placed P)) → All IsFlat ps → map mark_of (moved_placed s ps) ≡ moved_marks s (map mark_of ps)
  moved-of s ps a = sort-of (map (move_placed s) ps) (flat-moved s ps (every-from_all IsFlat ps a)) ∙ ap (sort_by mark_le) (map-of s ps)

  pub any-of : (id : ℕ) (ps : List (Placed P)) → list_any (has_placed_id id) ps ≡ list_any (has_id id) (map mark_of ps)
  any-of id [] = refl
  any-of id (p ∷ ps) = ap (λ b. (p.id == id) || b) (any-of id ps)

  pub position-of : (id : ℕ) (ps : List (Placed P)) → position (has_placed_id id) ps ≡ position (has_id id) (map mark_of ps)
  position-of id ps = position-map mark_of (has_placed_id id) (has_id id) (λ p. refl) ps

  pub filter-of : (id : ℕ) (ps : List (Placed P)) → map mark_of (filter (lacks_placed_id id) ps) ≡ filter (lacks_id id) (map mark_of ps)
  filter-of id [] = refl
  filter-of id (p ∷ ps) = go (not (p.id == id)) (filter-of id ps) where
    go : (b : Bool) → map mark_of (filter (lacks_placed_id id) ps) ≡ filter (lacks_id id) (map mark_of ps)
        → map mark_of (cond b (p ∷ filter (lacks_placed_id id) ps) (filter (lacks_placed_id id) ps)) ≡ cond b (mark_of p ∷ filter (lacks_id id) (map mark_of ps)) (filter (lacks_id id) (map mark_of ps))
    go true r = ap (λ l. mark_of p ∷ l) r
    go false r = r

  pub count-of : (q : Placed P → Bool) (q' : Mark P → Bool) → ((p : Placed P) → q p ≡ q' (mark_of p)) → (ps : List (Placed P)) → count_by q ps ≡ count_by q' (map mark_of ps)
  count-of q q' same [] = refl
  count-of q q' same (p ∷ ps) = count-cons q p ps ∙ (λ i. cond (same p i) 1 0 + count-of q q' same ps i) ∙ sym (count-cons q' (mark_of p) (map mark_of ps))

  -- what fits as marks fits as things of no length
  pub fits-of : (s : Shift) (ps : List (Placed P)) → All IsFlat ps → All (λ m. m.offset < 2 ^ 32) (map (move_mark s) (map mark_of ps)) → All (λ p. end_at p < 2 ^ 32) (map (move_placed s) ps)
  fits-of s [] a f = All-nil (λ p. end_at p < 2 ^ 32)
  fits-of s (p ∷ ps) a f =
      let first = All-head (λ m. m.offset < 2 ^ 32) (move_mark s (mark_of p)) (map (move_mark s) (map mark_of ps)) f in
      let flat = All-head IsFlat p ps a in
      All-cons (λ q. end_at q < 2 ^ 32) (move_placed s p) (map (move_placed s) ps) (omega (arith, first, flat)) (fits-of s ps (All-tail IsFlat p ps a) (All-tail (λ m. m.offset < 2 ^ 32) (move_mark s (mark_of p)) (map (move_mark s) (map mark_of ps)) f))

  offsets-of : (ps : List (Placed P)) → All (λ p. end_at p < 2 ^ 32) ps → All (λ m. m.offset < 2 ^ 32) (map mark_of ps)
  offsets-of [] e = All-nil (λ m. m.offset < 2 ^ 32)
  offsets-of (p ∷ ps) e =
      let first = All-head (λ q. end_at q < 2 ^ 32) p ps e in
      All-cons (λ m. m.offset < 2 ^ 32) (mark_of p) (map mark_of ps) (omega arith) (offsets-of ps (All-tail (λ q. end_at q < 2 ^ 32) p ps e))

  -- what a tree of marks is seen as
  pub lawful-of : (ps : List (Placed P)) → AreMarks ps → IsCodable ps → IsMarkList (map mark_of ps)
  lawful-of ps m c = record {
    sorted = sym (sort-of ps (every-from_all IsFlat ps m.flat)) ∙ ap (map mark_of) m.ordered.sorted;
    distinct = λ id. subst (λ n. n ≤ 1) (count-of (has_placed_id id) (has_id id) (λ p. refl) ps) (m.ordered.distinct id);
    offsets = offsets-of ps c.ends;
    small = omega (arith, length-map mark_of ps, c.small);
  }

  pub flat-added : (p : Placed P) (ps : List (Placed P)) → IsFlat p → All IsFlat ps → All IsFlat (insert_by placed_le p ps)
  flat-added p ps a b = all-from_every IsFlat (insert_by placed_le p ps) (every-insert placed_le IsFlat p ps a (every-from_all IsFlat ps b))

  pub flat-moved_all : (s : Shift) (ps : List (Placed P)) → All IsFlat ps → All IsFlat (moved_placed s ps)
  flat-moved_all s ps a = all-from_every IsFlat (moved_placed s ps) (every-sort placed_le IsFlat (map (move_placed s) ps) (flat-moved s ps (every-from_all IsFlat ps a)))

  pub slice_get-of : (ps : List (Placed P)) (k : ℕ) (p : Placed P) → slice_get ps k ≡ Some p → slice_get (map mark_of ps) k ≡ Some (mark_of p)
  slice_get-of [] k p e = absurd (cc)
  slice_get-of (q ∷ qs) zero p e = ap (λ r. Some (mark_of r)) (some-same q p e)
  slice_get-of (q ∷ qs) (suc k) p e = slice_get-of qs k p e

  -- the first mark at or after an offset
  pub first-of : (offset : ℕ) (ps : List (Placed P)) (at : ℕ) → at < length ps → All (λ p. p.offset < offset) (take at ps) → All (λ p. offset ≤ p.offset) (drop at ps)
      → Some at ≡ position (λ (m : Mark P). nat_le offset m.offset) (map mark_of ps)
  first-of offset ps at lt before from =
      position-found (λ (m : Mark P). nat_le offset m.offset) (map mark_of ps) at (omega (arith, length-map mark_of ps))
      (λ k d a. below ps at k before a (omega arith) d) (λ d. here ps at lt from d) where
        not_le : (m n : ℕ) → n < m → nat_le m n ≡ false
        not_le m n a = grind (arith, nat_tests)

        is_le : (m n : ℕ) → m ≤ n → nat_le m n ≡ true
        is_le m n a = grind (arith, nat_tests)

        below : (qs : List (Placed P)) (n k : ℕ) → All (λ p. p.offset < offset) (take n qs) → k < n → k < length qs → (d : Mark P) → nat_le offset (get_or (map mark_of qs) k d).offset ≡ false
        below [] n k a l b d = absurd (omega arith)
        below (q ∷ qs) zero k a l b d = absurd (omega arith)
        below (q ∷ qs) (suc n) zero a l b d = not_le offset q.offset (All-head (λ p. p.offset < offset) q (take n qs) a)
        below (q ∷ qs) (suc n) (suc k) a l b d = below qs n k (All-tail (λ p. p.offset < offset) q (take n qs) a) (omega arith) (omega arith) d

        here : (qs : List (Placed P)) (n : ℕ) → n < length qs → All (λ p. offset ≤ p.offset) (drop n qs) → (d : Mark P) → nat_le offset (get_or (map mark_of qs) n d).offset ≡ true
        here [] n l a d = absurd (omega arith)
        here (q ∷ qs) zero l a d = is_le offset q.offset (All-head (λ p. offset ≤ p.offset) q qs a)
        here (q ∷ qs) (suc n) l a d = here qs n (omega arith) a d

  -- the place of a key in order, among marks
  -- the first place from an offset on, which may be that past the last
  pub place-from : (offset : ℕ) (ps : List (Placed P)) (at : ℕ) → at ≤ length ps → All (λ p. p.offset < offset) (take at ps) → All (λ p. offset ≤ p.offset) (drop at ps)
      → at ≡ position_or_len (λ (m : Mark P). nat_le offset m.offset) (map mark_of ps)
  place-from offset [] at le before from = omega arith
  place-from offset (p ∷ ps) zero le before from =
      here (nat_le offset p.offset) (position_or_len (λ (m : Mark P). nat_le offset m.offset) (map mark_of ps)) (is_le offset p.offset (All-head (λ q. offset ≤ q.offset) p ps from)) where
        is_le : (m n : ℕ) → m ≤ n → nat_le m n ≡ true
        is_le m n a = grind (arith, nat_tests)

        here : (b : Bool) (n : ℕ) → b ≡ true → zero ≡ cond (not b) (1 + n) 0
        here true n e = refl
        here false n e = absurd (cc)
  place-from offset (p ∷ ps) (suc at) le before from =
      further (nat_le offset p.offset) (not_le offset p.offset (All-head (λ q. q.offset < offset) p (take at ps) before))
      (place-from offset ps at (omega arith) (All-tail (λ q. q.offset < offset) p (take at ps) before) from) where
        not_le : (m n : ℕ) → n < m → nat_le m n ≡ false
        not_le m n a = grind (arith, nat_tests)

        further : (b : Bool) → b ≡ false → at ≡ position_or_len (λ (m : Mark P). nat_le offset m.offset) (map mark_of ps) → suc at ≡ cond (not b) (1 + position_or_len (λ (m : Mark P). nat_le offset m.offset) (map mark_of ps)) 0
        further true e is = absurd (cc)
        further false e is = omega (arith, is)

  pub place-of : (offset : ℕ) (bias : Bias) (id : ℕ) (ps : List (Placed P)) (at : ℕ) → All IsFlat ps → IsPlaceFor (record { offset = offset; bias = bias_rank bias; length = 0; id = id }) ps at
      → at ≡ position_or_len (is_not_before offset bias id) (map mark_of ps)
  place-of offset bias id [] at flat w = omega (arith, w.within)
  place-of offset bias id (p ∷ ps) at flat w =
      let q = is_not_before offset bias id in
      let same : (k : ℕ) → k < length (p ∷ ps) → q (get_or (map mark_of (p ∷ ps)) k (mark_of p)) ≡ key_le (record { offset = offset; bias = bias_rank bias; length = 0; id = id }) (key_of (get_or (p ∷ ps) k p)) =
      λ k lt. ap q (get_or-map mark_of (p ∷ ps) k p (mark_of p) lt)
      ∙ ap (λ r. in_order offset (get_or (p ∷ ps) k p).offset (in_order (bias_rank bias) (bias_rank (get_or (p ∷ ps) k p).bias) r)) (sym (level 0 (get_or (p ∷ ps) k p).length (nat_le id (get_or (p ∷ ps) k p).id) refl (flat k p lt))) in
      sym (position_or_len_is q (map mark_of (p ∷ ps)) at (mark_of p) (omega (arith, w.within, length-map mark_of (p ∷ ps)))
      (λ k lt. same k (omega (arith, lt, w.within)) ∙ w.before k p lt)
      (λ lt. let lt' : at < length (p ∷ ps) = omega (arith, lt, length-map mark_of (p ∷ ps)) in same at lt' ∙ w.from p lt'))

  -- parts of the list, as marks
  pub around-of : (at : ℕ) (p : Placed P) (ps : List (Placed P)) → map mark_of (take at ps ++ p ∷ drop at ps) ≡ take at (map mark_of ps) ++ mark_of p ∷ drop at (map mark_of ps)
  around-of at p ps = map-append mark_of (take at ps) (p ∷ drop at ps) ∙ (λ i. sym (take-map mark_of at ps) i ++ mark_of p ∷ sym (drop-map mark_of at ps) i)

  pub without-of : (at : ℕ) (ps : List (Placed P)) → map mark_of (take at ps ++ drop (at + 1) ps) ≡ take at (map mark_of ps) ++ drop (at + 1) (map mark_of ps)
  without-of at ps = map-append mark_of (take at ps) (drop (at + 1) ps) ∙ (λ i. sym (take-map mark_of at ps) i ++ sym (drop-map mark_of (at + 1) ps) i)

  pub none-of : (offset : ℕ) (ps : List (Placed P)) (at : ℕ) → length ps ≤ at → All (λ p. p.offset < offset) (take at ps) → None ≡ position (λ (m : Mark P). nat_le offset m.offset) (map mark_of ps)
  none-of offset ps at le before = position-none (λ (m : Mark P). nat_le offset m.offset) (map mark_of ps) (λ k d a. below ps at k before le (omega (arith, length-map mark_of ps)) d) where
    not_le : (m n : ℕ) → n < m → nat_le m n ≡ false
    not_le m n a = grind (arith, nat_tests)

    below : (qs : List (Placed P)) (n k : ℕ) → All (λ p. p.offset < offset) (take n qs) → length qs ≤ n → k < length qs → (d : Mark P) → nat_le offset (get_or (map mark_of qs) k d).offset ≡ false
    below [] n k a l b d = absurd (omega arith)
    below (q ∷ qs) zero k a l b d = absurd (omega arith)
    below (q ∷ qs) (suc n) zero a l b d = not_le offset q.offset (All-head (λ p. p.offset < offset) q (take n qs) a)
    below (q ∷ qs) (suc n) (suc k) a l b d = below qs n k (All-tail (λ p. p.offset < offset) q (take n qs) a) (omega arith) (omega arith) d
