-- What a replacement leaves of ranges.
use Rattle.std.proofs.Common.{◌≡◌, ℕ, suc, ◌+◌, ◌-◌, ◌<◌, ◌≤◌, ◌^◌, nat_lt, not, Bool, true, false, cond, List, [], ◌∷◌, ◌++◌, length, map, filter, count_by, refl, ap, ◌∙◌, arith, ◌*◌}
use Rattle.std.specs.List.{All}
use Rattle.std.proofs.lemmas.List.Elements.{All-nil, All-cons, All-head, All-tail}
use Rattle.std.proofs.lemmas.Bool.Decides.{nat_tests}
use Rattle.cell_units.specs.declared.place.Shift.{Shift}
use Rattle.cell_units.specs.Sorting.{sort_by}
use Rattle.mark_tree.specs.Bounds.{splicing}
use Rattle.mark_tree.specs.declared.entry.Placed.{Placed}
use Rattle.mark_tree.specs.declared.mark.RangeMark.{RangeMark}
use Rattle.mark_tree.specs.Entries.{end_at, IsCodable}
use Rattle.mark_tree.specs.Order.{placed_le, has_placed_id, IsOrdered}
use Rattle.mark_tree.specs.Ranges.{range_le, move_range, is_kept, moved_ranges, dropped_ids}
use Rattle.mark_tree.specs.RangeViews.{range_of, IsRange, AreRanges, moved_start, moved_end, is_left_over, move_extent, left_over, emptied_id, all_left_over, emptied_ids, IsFittingMoved}
use Rattle.mark_tree.proofs.Sorting.{Every, count-cons, count-sort, length-sort, every-sort, sorted-sort, sort-again}
use Rattle.mark_tree.proofs.Order.{le-total, le-trans}
use Rattle.mark_tree.proofs.Changing.{all-from_every, codable-sorted}
use Rattle.mark_tree.proofs.RangeViewed.{sort-range}

test-below : (m n : ℕ) → nat_lt m n ≡ true → m < n
test-below m n e = grind (arith, nat_tests)

pub append-none : {X : Type 0} (xs : List X) → xs ++ [] ≡ xs
append-none [] = refl
append-none (x ∷ xs) = ap (λ l. x ∷ l) (append-none xs)

module _ {P : Type 0} where
  pub left-cons : (s : Shift) (p : Placed P) (ps : List (Placed P)) → all_left_over s (p ∷ ps) ≡ left_over s p ++ all_left_over s ps
  left-cons s p ps = go (is_left_over s p) where
    go : (b : Bool) → map (move_extent s) (cond b (p ∷ filter (is_left_over s) ps) (filter (is_left_over s) ps)) ≡ cond b (move_extent s p ∷ []) [] ++ all_left_over s ps
    go true = refl
    go false = refl

  pub gone-cons : (s : Shift) (p : Placed P) (ps : List (Placed P)) → emptied_ids s (p ∷ ps) ≡ emptied_id s p ++ emptied_ids s ps
  gone-cons s p ps = go (is_left_over s p) where
    go : (b : Bool) → map (λ (q : Placed P). q.id) (cond (not b) (p ∷ filter (λ q. not (is_left_over s q)) ps) (filter (λ q. not (is_left_over s q)) ps)) ≡ cond b [] (p.id ∷ []) ++ emptied_ids s ps
    go true = refl
    go false = refl

  -- what holds of each that is left over
  pub each-left : (Q : Placed P → Type 0) (s : Shift) (ps : List (Placed P)) → Every (λ p. is_left_over s p ≡ true → Q (move_extent s p)) ps → Every Q (all_left_over s ps)
  each-left Q s [] a = tt
  each-left Q s (p ∷ ps) a = go (is_left_over s p) a.0 (each-left Q s ps a.1) where
    go : (b : Bool) → (b ≡ true → Q (move_extent s p)) → Every Q (all_left_over s ps) → Every Q (map (move_extent s) (cond b (p ∷ filter (is_left_over s) ps) (filter (is_left_over s) ps)))
    go true f r = (f refl, r)
    go false f r = r

  ranges-every : (s : Shift) (ps : List (Placed P)) → All IsRange ps → Every (λ p. is_left_over s p ≡ true → IsRange (move_extent s p)) ps
  ranges-every s [] a = tt
  ranges-every s (p ∷ ps) a =
      ((λ e. let lt = test-below (moved_start s p) (moved_end s p) e in record { right = (All-head IsRange p ps a).right; some = omega arith }), ranges-every s ps (All-tail IsRange p ps a))

  pub ranges-left : (s : Shift) (ps : List (Placed P)) → All IsRange ps → All IsRange (all_left_over s ps)
  ranges-left s ps a = all-from_every IsRange (all_left_over s ps) (each-left IsRange s ps (ranges-every s ps a))

  ends-every : (s : Shift) (ps : List (Placed P)) → All (IsFittingMoved s) ps → Every (λ p. is_left_over s p ≡ true → end_at (move_extent s p) < 2 ^ 32) ps
  ends-every s [] a = tt
  ends-every s (p ∷ ps) a =
      ((λ e. let lt = test-below (moved_start s p) (moved_end s p) e in let fit = (All-head (IsFittingMoved s) p ps a).1 in omega arith), ends-every s ps (All-tail (IsFittingMoved s) p ps a))

  pub count-left : (s : Shift) (id : ℕ) (ps : List (Placed P)) → count_by (has_placed_id id) (all_left_over s ps) ≤ count_by (has_placed_id id) ps
  count-left s id [] = omega arith
  count-left s id (p ∷ ps) = go (is_left_over s p) (count-left s id ps) where
    go : (b : Bool) → count_by (has_placed_id id) (all_left_over s ps) ≤ count_by (has_placed_id id) ps
        → count_by (has_placed_id id) (map (move_extent s) (cond b (p ∷ filter (is_left_over s) ps) (filter (is_left_over s) ps))) ≤ count_by (has_placed_id id) (p ∷ ps)
    go true r = omega (arith, count-cons (has_placed_id id) (move_extent s p) (all_left_over s ps), count-cons (has_placed_id id) p ps, r)
    go false r = omega (arith, count-cons (has_placed_id id) p ps, r)

  pub length-left : (s : Shift) (ps : List (Placed P)) → length (all_left_over s ps) ≤ length ps
  length-left s [] = omega arith
  length-left s (p ∷ ps) = go (is_left_over s p) (length-left s ps) where
    go : (b : Bool) → length (all_left_over s ps) ≤ length ps → length (map (move_extent s) (cond b (p ∷ filter (is_left_over s) ps) (filter (is_left_over s) ps))) ≤ suc (length ps)
    go true r = omega (arith, r)
    go false r = omega (arith, r)

  distinct-left : (s : Shift) (ps : List (Placed P)) → IsOrdered ps → (id : ℕ) → count_by (has_placed_id id) (all_left_over s ps) ≤ 1
  distinct-left s ps o id = omega (arith, count-left s id ps, o.distinct id)

  pub codable-left : (s : Shift) (ps : List (Placed P)) → All (IsFittingMoved s) ps → length ps < 2 ^ 32 → IsCodable (sort_by placed_le (all_left_over s ps))
  codable-left s ps fits small =
      codable-sorted (sort_by placed_le (all_left_over s ps)) (sorted-sort placed_le le-total le-trans (all_left_over s ps))
      (all-from_every (λ q. end_at q < 2 ^ 32) (sort_by placed_le (all_left_over s ps)) (every-sort placed_le (λ q. end_at q < 2 ^ 32) (all_left_over s ps) (each-left (λ q. end_at q < 2 ^ 32) s ps (ends-every s ps fits))))
      (omega (arith, length-sort placed_le (all_left_over s ps), length-left s ps))

  pub ranges-moved : (s : Shift) (ps : List (Placed P)) → AreRanges ps → AreRanges (sort_by placed_le (all_left_over s ps))
  ranges-moved s ps a = record {
    each = all-from_every IsRange (sort_by placed_le (all_left_over s ps)) (every-sort placed_le IsRange (all_left_over s ps) (each-left IsRange s ps (ranges-every s ps a.each)));
    ordered = record {
      sorted = sort-again placed_le le-total le-trans (all_left_over s ps);
      distinct = λ id. omega (arith, count-sort placed_le (has_placed_id id) (all_left_over s ps), distinct-left s ps a.ordered id);
    };
  }

  move-of : (s : Shift) (p : Placed P) → is_left_over s p ≡ true → range_of (move_extent s p) ≡ move_range s (range_of p)
  move-of s p e =
      let lt = test-below (moved_start s p) (moved_end s p) e in
      let end : moved_start s p + (moved_end s p - moved_start s p) ≡ moved_end s p = omega arith in
      λ i. record { start = moved_start s p; end = end i; id = p.id }

  left-of : (s : Shift) (ps : List (Placed P)) → map range_of (all_left_over s ps) ≡ map (move_range s) (filter (is_kept s) (map range_of ps))
  left-of s [] = refl
  left-of s (p ∷ ps) = go (is_left_over s p) (move-of s p) (left-of s ps) where
    go : (b : Bool) → (b ≡ true → range_of (move_extent s p) ≡ move_range s (range_of p)) → map range_of (all_left_over s ps) ≡ map (move_range s) (filter (is_kept s) (map range_of ps))
        → map range_of (map (move_extent s) (cond b (p ∷ filter (is_left_over s) ps) (filter (is_left_over s) ps))) ≡ map (move_range s) (cond b (range_of p ∷ filter (is_kept s) (map range_of ps)) (filter (is_kept s) (map range_of ps)))
    go true f r = λ i. f refl i ∷ r i
    go false f r = r

  pub ranges-of : (s : Shift) (ps : List (Placed P)) → All IsRange ps → map range_of (sort_by placed_le (all_left_over s ps)) ≡ moved_ranges s (map range_of ps)
  ranges-of s ps a = sort-range (all_left_over s ps) (ranges-left s ps a) ∙ ap (sort_by range_le) (left-of s ps)

  pub gone-of : (s : Shift) (ps : List (Placed P)) → emptied_ids s ps ≡ dropped_ids s (map range_of ps)
  gone-of s [] = refl
  gone-of s (p ∷ ps) = go (is_left_over s p) (gone-of s ps) where
    go : (b : Bool) → emptied_ids s ps ≡ dropped_ids s (map range_of ps)
        → map (λ (q : Placed P). q.id) (cond (not b) (p ∷ filter (λ q. not (is_left_over s q)) ps) (filter (λ q. not (is_left_over s q)) ps))
        ≡ map (λ (r : RangeMark). r.id) (cond (not b) (range_of p ∷ filter (λ r. not (is_kept s r)) (map range_of ps)) (filter (λ r. not (is_kept s r)) (map range_of ps)))
    go true r = r
    go false r = ap (λ l. p.id ∷ l) r

  pub fits-range : (s : Shift) (ps : List (Placed P)) → All (λ r. (r.start < 2 ^ 32) × (r.end < 2 ^ 32)) (map (move_range s) (map range_of ps)) → All (IsFittingMoved s) ps
  fits-range s [] f = All-nil (IsFittingMoved s)
  fits-range s (p ∷ ps) f =
      All-cons (IsFittingMoved s) p ps (All-head (λ r. (r.start < 2 ^ 32) × (r.end < 2 ^ 32)) (move_range s (range_of p)) (map (move_range s) (map range_of ps)) f)
      (fits-range s ps (All-tail (λ r. (r.start < 2 ^ 32) × (r.end < 2 ^ 32)) (move_range s (range_of p)) (map (move_range s) (map range_of ps)) f))

pub run-steps : (h k n s₀ s₁ s₂ : ℕ) → n ≤ k → s₁ ≤ s₀ + (h + 1) * k → s₂ ≤ s₁ + splicing n h → s₂ ≤ s₀ + (162 * (h + 1) + 5 * (h + 1) * k)
run-steps h k n s₀ s₁ s₂ few a b = omega arith
