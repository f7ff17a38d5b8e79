-- A replacement among ranges: those before it, those that start in it, and those after it.
use Rattle.std.proofs.Common.{◌≡◌, ℕ, ◌+◌, ◌-◌, ◌*◌, ◌<◌, ◌≤◌, ◌&&◌, nat_le, true, List, [], ◌∷◌, ◌++◌, length, take, drop, map, count_by, sym, ap, subst, ◌∙◌, arith}
use Rattle.std.specs.List.{All}
use Rattle.std.proofs.Math.Nat.{mul-le-mul_left}
use Rattle.std.proofs.lemmas.List.{length-append, length-take, length-drop, take_at, drop_at}
use Rattle.std.proofs.lemmas.List.Elements.{All-take, All-drop}
use Rattle.std.proofs.lemmas.Bool.Decides.{nat_tests}
use Rattle.cell_units.specs.declared.place.Bias.TheVariants.{Right}
use Rattle.cell_units.specs.declared.place.Shift.{Shift}
use Rattle.cell_units.specs.Sorting.{sort_by}
use Rattle.mark_tree.specs.declared.entry.Placed.{Placed}
use Rattle.mark_tree.specs.Entries.{IsCodable, end_at, run, shifted, spliced}
use Rattle.mark_tree.specs.Order.{placed_le, has_placed_id}
use Rattle.mark_tree.specs.RangeViews.{AreRanges, AreSplit, IsFittingMoved, IsRange, all_left_over, emptied_ids, is_left_over, meets_extent, move_extent, moved_extents}
use Rattle.mark_tree.proofs.Changing.{every-from_all}
use Rattle.mark_tree.proofs.Grouped.{length-moved_before, moved-append, offsets-before}
use Rattle.mark_tree.proofs.LeftOver.{all-kept-before, all-kept-behind, gone-append, gone-none, left-append, left-behind}
use Rattle.mark_tree.proofs.Moved.{count-all, count-append, move-within, places-in_order, shifted-above, shifted-sorted, three-parts}
use Rattle.mark_tree.proofs.Order.{sorted-placed}
use Rattle.mark_tree.proofs.Runs.{count-run, every-run, length-run, rest-same, run-same}
use Rattle.mark_tree.proofs.Shrunk.{append-none, codable-left, each-left, length-left}
use Rattle.mark_tree.proofs.Sorting.{Every, IsSorted, every-append, every-weaker, length-sort, sort-sorted, sorted-right}

-- ranges, of which those from place `first` to place `last` start in the replaced bytes or at their ends
pub record ArePlaced {P : Type 0} (s : Shift) (first last : ℕ) (old : List (Placed P)) : Type 0 where
  pub split : AreSplit s first old
  pub order : first ≤ last
  pub within : last ≤ length old
  pub below : All (λ p. p.offset < s.end + 1) (take last old)
  pub above : All (λ p. s.end + 1 ≤ p.offset) (drop last old)

pub placed : {P : Type 0} (s : Shift) (first last : ℕ) (old : List (Placed P)) → AreRanges old → All (IsFittingMoved s) old → first ≤ length old → All (λ p. p.offset < s.start) (take first old) → All (λ p. s.start ≤ p.offset) (drop first old)
    → last ≤ length old → All (λ p. p.offset < s.end + 1) (take last old) → All (λ p. s.end + 1 ≤ p.offset) (drop last old) → ArePlaced s first last old
placed s first last old ranges fits within before from within' below above = record {
  split = record { ranges = ranges; within = within; before = before; from = from; fits = fits };
  order = places-in_order s.start s.end old first last s.ordered within before above;
  within = within';
  below = below;
  above = above;
}

module _ {P : Type 0} (s : Shift) (first last : ℕ) (old : List (Placed P)) (a : ArePlaced s first last old) where
  before-ranges : Every IsRange (take first old)
  before-ranges = every-from_all IsRange (take first old) (All-take IsRange first old a.split.ranges.each)

  before-starts : Every (λ p. p.offset < s.start) (take first old)
  before-starts = every-from_all (λ p. p.offset < s.start) (take first old) a.split.before

  mid-starts : Every (λ p. s.start ≤ p.offset) (run first last old)
  mid-starts = every-from_all (λ p. s.start ≤ p.offset) (run first last old) (All-take (λ p. s.start ≤ p.offset) (last - first) (drop first old) a.split.from)

  mid-below : Every (λ p. p.offset < s.end + 1) (run first last old)
  mid-below = every-run (λ p. p.offset < s.end + 1) old first last last a.order (omega arith) a.below

  behind-ranges : Every IsRange (drop last old)
  behind-ranges = every-from_all IsRange (drop last old) (All-drop IsRange last old a.split.ranges.each)

  behind-starts : Every (λ p. s.end + 1 ≤ p.offset) (drop last old)
  behind-starts = every-from_all (λ p. s.end + 1 ≤ p.offset) (drop last old) a.above

  left-mid : Every (λ p. (s.start ≤ p.offset) × (p.offset < s.start + s.count + 1)) (all_left_over s (run first last old))
  left-mid = each-left (λ p. (s.start ≤ p.offset) × (p.offset < s.start + s.count + 1)) s (run first last old) (go (run first last old) mid-starts mid-below) where
    go : (qs : List (Placed P)) → Every (λ p. s.start ≤ p.offset) qs → Every (λ p. p.offset < s.end + 1) qs → Every (λ p. is_left_over s p ≡ true → (s.start ≤ (move_extent s p).offset) × ((move_extent s p).offset < s.start + s.count + 1)) qs
    go [] a b = tt
    go (q ∷ qs) a b = ((λ e. let in' = move-within q.offset Right s.start s.end s.count a.0 (omega (arith, b.0)) in (in'.0, omega (arith, in'.1))), go qs a.1 b.1)

  left-back : all_left_over s (drop last old) ≡ map (shifted s) (drop last old)
  left-back = left-behind s (drop last old) s.ordered behind-ranges behind-starts

  back-above : Every (λ p. s.start + s.count + 1 ≤ p.offset) (all_left_over s (drop last old))
  back-above = subst (Every (λ p. s.start + s.count + 1 ≤ p.offset)) (sym left-back) (shifted-above s (drop last old) s.ordered behind-starts)

  back-sorted : moved_extents s (drop last old) ≡ map (shifted s) (drop last old)
  back-sorted =
      ap (sort_by placed_le) left-back
      ∙ sort-sorted placed_le (map (shifted s) (drop last old))
      (shifted-sorted s (drop last old) s.ordered behind-starts
      (sorted-right placed_le (run first last old) (drop last old) (sorted-right placed_le (take first old) (run first last old ++ drop last old) (subst (IsSorted placed_le) (three-parts old first last a.order) (sorted-placed old a.split.ranges.ordered.sorted)))))

  parts : moved_extents s old ≡ moved_extents s (take first old) ++ (moved_extents s (run first last old) ++ map (shifted s) (drop last old))
  parts =
      let mid = run first last old in
      let back = drop last old in
      let rest : Every (λ p. s.start ≤ p.offset) (all_left_over s (mid ++ back)) =
      subst (Every (λ p. s.start ≤ p.offset)) (sym (left-append s mid back))
      (every-append (λ p. s.start ≤ p.offset) (all_left_over s mid) (all_left_over s back)
      (every-weaker (λ p. (s.start ≤ p.offset) × (p.offset < s.start + s.count + 1)) (λ p. s.start ≤ p.offset) (λ p e. e.0) (all_left_over s mid) left-mid)
      (every-weaker (λ p. s.start + s.count + 1 ≤ p.offset) (λ p. s.start ≤ p.offset) (λ p e. omega arith) (all_left_over s back) back-above)) in
      ap (moved_extents s) (three-parts old first last a.order)
      ∙ moved-append s s.start (take first old) (mid ++ back) (offsets-before (λ n. n < s.start) s (take first old) before-starts before-starts) rest
      ∙ ap (λ l. moved_extents s (take first old) ++ l)
      (moved-append s (s.start + s.count + 1) mid back
      (every-weaker (λ p. (s.start ≤ p.offset) × (p.offset < s.start + s.count + 1)) (λ p. p.offset < s.start + s.count + 1) (λ p e. e.1) (all_left_over s mid) left-mid) back-above
      ∙ ap (λ l. moved_extents s mid ++ l) back-sorted)

  -- those before the replacement are never emptied, nor those after it
  pub gone-parts : emptied_ids s old ≡ emptied_ids s (run first last old)
  gone-parts =
      let mid = run first last old in
      let back = drop last old in
      ap (emptied_ids s) (three-parts old first last a.order)
      ∙ gone-append s (take first old) (mid ++ back)
      ∙ (λ i. gone-none s (take first old) (all-kept-before s (take first old) s.ordered before-ranges before-starts) i ++ gone-append s mid back i)
      ∙ ap (λ l. emptied_ids s mid ++ l) (gone-none s back (all-kept-behind s back s.ordered behind-ranges behind-starts))
      ∙ append-none (emptied_ids s mid)

  -- each that starts before the replacement and reaches it is met, and each that starts in it
  pub met-parts : count_by (meets_extent s) (take first old) + (last - first) ≤ count_by (meets_extent s) old
  met-parts =
      let mid = run first last old in
      omega (
        arith,
        ap (count_by (meets_extent s)) (three-parts old first last a.order),
        count-append (meets_extent s) (take first old) (mid ++ drop last old),
        count-append (meets_extent s) mid (drop last old),
        count-all (meets_extent s) mid (met mid mid-starts mid-below),
        length-run old first last a.within,
      ) where
        both : (n k l : ℕ) → s.start ≤ n → n < s.end + 1 → k ≡ n + l → (nat_le n s.end && nat_le s.start k) ≡ true
        both n k l a b c = grind (arith, nat_tests)

        met : (qs : List (Placed P)) → Every (λ p. s.start ≤ p.offset) qs → Every (λ p. p.offset < s.end + 1) qs → Every (λ p. meets_extent s p ≡ true) qs
        met [] a b = tt
        met (q ∷ qs) a b = (both q.offset (end_at q) q.length a.0 b.0 (λ i. end_at q), met qs a.1 b.1)

  -- the same, once those before it have been moved
  module _ (ps : List (Placed P)) (is : ps ≡ moved_extents s (take first old) ++ drop first old) where
    moved-count : length (moved_extents s (take first old)) ≡ first
    moved-count = let in' = a.split.within in omega (arith, length-moved_before s (take first old) s.ordered before-ranges before-starts, length-take first old)

    front-same : take first ps ≡ moved_extents s (take first old)
    front-same = ap (take first) is ∙ take_at (moved_extents s (take first old)) (drop first old) first moved-count

    back-same : drop first ps ≡ drop first old
    back-same = ap (drop first) is ∙ drop_at (moved_extents s (take first old)) (drop first old) first moved-count

    pub mid-same : run first last ps ≡ run first last old
    mid-same = run-same ps old first first last back-same (omega arith)

    pub behind-same : drop last ps ≡ drop last old
    behind-same = rest-same ps old first last back-same a.order

    pub length-same : length ps ≡ length old
    length-same = let in' = a.split.within in omega (arith, ap length is, length-append (moved_extents s (take first old)) (drop first old), moved-count, length-drop first old)

    pub whole : spliced first last (moved_extents s (run first last ps)) s ps ≡ moved_extents s old
    whole = (λ i. front-same i ++ (moved_extents s (mid-same i) ++ map (shifted s) (behind-same i))) ∙ sym parts

    pub mid-fits : All (IsFittingMoved s) (run first last ps)
    mid-fits = subst (All (IsFittingMoved s)) (sym mid-same) (All-take (IsFittingMoved s) (last - first) (drop first old) (All-drop (IsFittingMoved s) first old a.split.fits))

    pub mid-distinct : (id : ℕ) → count_by (has_placed_id id) (run first last ps) ≤ 1
    mid-distinct id = omega (arith, ap (count_by (has_placed_id id)) mid-same, count-run (has_placed_id id) old first last a.order, a.split.ranges.ordered.distinct id)

    pub whole-codable : IsCodable old → IsCodable (spliced first last (moved_extents s (run first last ps)) s ps)
    whole-codable c = subst IsCodable (sym whole) (codable-left s old a.split.fits c.small)

pub length-moved : {P : Type 0} (s : Shift) (ps : List (Placed P)) → length (moved_extents s ps) ≤ length ps
length-moved s ps = omega (arith, length-sort placed_le (all_left_over s ps), length-left s ps)

-- The steps of finding the places, of the rounds before the replacement and of what starts in it.
pub whole-steps : (h b k m s₀ s₁ s₂ s₃ s₄ : ℕ) → b + k ≤ m → s₁ ≤ s₀ + (h + 1) → s₂ ≤ s₁ + (h + 1) → s₃ ≤ s₂ + (250 * (h + 1) * b + 81 * (h + 1)) → s₄ ≤ s₃ + (162 * (h + 1) + 5 * (h + 1) * k) → s₄ ≤ s₀ + 250 * (h + 1) * (m + 1)
whole-steps h b k m s₀ s₁ s₂ s₃ s₄ met a c d e = omega (arith, mul-le-mul_left (h + 1) met)
