-- The rounds in which ranges are moved that start before a replacement.
use Rattle.std.proofs.Common.{◌≡◌, ℕ, zero, suc, ◌+◌, ◌-◌, ◌*◌, ◌<◌, ◌≤◌, ◌&&◌, nat_le, true, List, [], ◌∷◌, ◌++◌, length, take, drop, count_by, sym, ap, subst, ◌∙◌, arith, append_assoc, drop-drop}
use Rattle.std.specs.List.{All}
use Rattle.std.proofs.Math.Nat.{mul-le-mul_left}
use Rattle.std.proofs.lemmas.List.{length-append, length-take, length-drop, take-take, take_at, drop_at}
use Rattle.std.proofs.lemmas.List.Elements.{All-take, All-drop}
use Rattle.std.proofs.lemmas.Bool.Decides.{nat_tests}
use Rattle.cell_units.specs.declared.place.Shift.{Shift}
use Rattle.cell_units.specs.Sorting.{sort_by}
use Rattle.mark_tree.specs.declared.entry.Placed.{Placed}
use Rattle.mark_tree.specs.Entries.{IsCodable, end_at, run, spliced}
use Rattle.mark_tree.specs.Order.{placed_le, has_placed_id}
use Rattle.mark_tree.specs.RangeViews.{AreSplit, IsFittingMoved, IsGroup, IsRange, meets_extent, moved_extents}
use Rattle.mark_tree.specs.Reaching.{IsFirstReaching}
use Rattle.mark_tree.proofs.Changing.{all-from_every, every-from_all, no_shift}
use Rattle.mark_tree.proofs.Grouped.{all-reaching, codable-group, length-moved_before, moved-append, moved-front, offsets-before, spliced-unshifted}
use Rattle.mark_tree.proofs.LeftOver.{left-short}
use Rattle.mark_tree.proofs.Moved.{below-above, count-all, count-append, part-below, three-parts}
use Rattle.mark_tree.proofs.Order.{le-offset, sorted-placed}
use Rattle.mark_tree.proofs.Runs.{count-run, every-run, length-run, rest-same, run-same, run-split, sorted-run}
use Rattle.mark_tree.proofs.Sorting.{Every, IsSorted, every-append, every-right, every-weaker, sort-sorted}

module _ {P : Type 0} where
  -- Those before place `at` have been moved. With what the replacement leaves of the others up to place `first` they
  -- are what it leaves of all.
  pub record IsMovedTo (s : Shift) (first : ℕ) (old : List (Placed P)) (at : ℕ) (ps : List (Placed P)) : Type 0 where
    pub low : at ≤ first
    pub same : length ps ≡ length old
    pub kept : drop at ps ≡ drop at old
    pub done : take at ps ++ moved_extents s (run at first old) ≡ moved_extents s (take first old)

  -- where none is left that reaches the replacement
  pub all-moved : (s : Shift) (first at from : ℕ) (old ps : List (Placed P)) → AreSplit s first old → IsMovedTo s first old at ps → IsFirstReaching at s.start ps from → first ≤ from → ps ≡ moved_extents s (take first old) ++ drop first old
  all-moved s first at from old ps f m r le =
      let low = m.low in
      let mine = run at first old in
      let here : run at first ps ≡ mine = run-same ps old at at first m.kept (omega arith) in
      let short : Every (λ p. end_at p < s.start) mine =
      every-from_all (λ p. end_at p < s.start) mine
      (subst (All (λ p. end_at p < s.start)) (take-take (first - at) (from - at) (drop at ps) (omega arith) ∙ here) (All-take (λ p. end_at p < s.start) (first - at) (run at from ps) r.short)) in
      let before = every-run (λ p. p.offset < s.start) old at first first low (omega arith) f.before in
      let ranges = every-run IsRange old at first first low (omega arith) (All-take IsRange first old f.ranges.each) in
      let stays : moved_extents s mine ≡ mine =
      ap (sort_by placed_le) (left-short s mine s.ordered ranges before short) ∙ sort-sorted placed_le mine (sorted-run placed_le old at first low (sorted-placed old f.ranges.ordered.sorted)) in
      three-parts ps at first low
      ∙ sym (append_assoc (take at ps) (run at first ps) (drop first ps))
      ∙ ap (λ l. (take at ps ++ l) ++ drop first ps) (here ∙ sym stays)
      ∙ ap (λ l. l ++ drop first ps) m.done
      ∙ ap (λ l. moved_extents s (take first old) ++ l) (rest-same ps old at first m.kept low)

  module _ (s : Shift) (first at from to : ℕ) (old ps : List (Placed P)) (f : AreSplit s first old) (m : IsMovedTo s first old at ps) (r : IsFirstReaching at s.start ps from) (lt : from < first) where
    pub from-within : from < length ps
    from-within = let within = f.within in let same = m.same in omega arith

    module _ (g : IsGroup from to ps) where
      heads : (o n k l : ℕ) (qs : List (Placed P)) → 1 ≤ k → 1 ≤ l → 1 ≤ length qs → Every (λ p. p.offset ≡ o) (take k qs) → Every (λ p. p.offset < n) (take l qs) → o < n
      heads o n zero l qs a b c d e = absurd (omega arith)
      heads o n (suc k) zero qs a b c d e = absurd (omega arith)
      heads o n (suc k) (suc l) [] a b c d e = absurd (omega arith)
      heads o n (suc k) (suc l) (q ∷ qs) a b c d e = omega (arith, d.0, e.0)

      here-same : run from to ps ≡ run from to old
      here-same = run-same ps old at from to m.kept r.from

      level : Every (λ p. p.offset ≡ g.start) (run from to ps)
      level = every-from_all (λ p. p.offset ≡ g.start) (run from to ps) g.level

      start-below : g.start < s.start
      start-below =
          let some = g.some in
          let within = from-within in
          let first-same : run from first ps ≡ run from first old = run-same ps old at from first m.kept r.from in
          heads g.start s.start (to - from) (first - from) (drop from ps) (omega arith) (omega arith) (omega (arith, length-drop from ps)) level
          (subst (Every (λ p. p.offset < s.start)) (sym first-same) (every-run (λ p. p.offset < s.start) old from first first (omega arith) (omega arith) f.before))

      here-before : Every (λ p. p.offset < s.start) (run from to ps)
      here-before = let low = start-below in every-weaker (λ p. p.offset ≡ g.start) (λ p. p.offset < s.start) (λ p e. omega arith) (run from to ps) level

      pub to-within : to ≤ first
      to-within =
          let some = g.some in
          let within = g.within in
          let there : from + (first - from) ≡ first = omega arith in
          let rest : drop (first - from) (drop from ps) ≡ drop first old = drop-drop (first - from) from ps ∙ ap (λ n. drop n ps) there ∙ rest-same ps old at first m.kept m.low in
          let le : to - from ≤ first - from =
          below-above s.start s.start (drop from ps) (to - from) (first - from) (omega arith) (omega (arith, length-drop from ps))
          (all-from_every (λ p. p.offset < s.start) (run from to ps) here-before) (subst (All (λ p. s.start ≤ p.offset)) (sym rest) f.from) in
          omega arith

      here-ranges : Every IsRange (run from to ps)
      here-ranges = subst (Every IsRange) (sym here-same) (let some = g.some in every-run IsRange old from to first (omega arith) to-within (All-take IsRange first old f.ranges.each))

      pub here-fits : All (IsFittingMoved s) (run from to ps)
      here-fits = subst (All (IsFittingMoved s)) (sym here-same) (All-take (IsFittingMoved s) (to - from) (drop from old) (All-drop (IsFittingMoved s) from old f.fits))

      pub here-distinct : (id : ℕ) → count_by (has_placed_id id) (run from to ps) ≤ 1
      here-distinct id =
          let some = g.some in
          omega (arith, ap (count_by (has_placed_id id)) here-same, count-run (has_placed_id id) old from to (omega arith), f.ranges.ordered.distinct id)

      pub here-codable : IsCodable ps → IsCodable (spliced from to (moved_extents s (run from to ps)) no_shift ps)
      here-codable c = codable-group s from to ps s.ordered c g here-ranges here-before here-fits

      size : length (moved_extents s (run from to ps)) ≡ to - from
      size = length-moved_before s (run from to ps) s.ordered here-ranges here-before ∙ length-run ps from to g.within

      here-reaching : Every (λ p. s.start ≤ end_at p) (run from to ps)
      here-reaching =
          let some = g.some in
          all-reaching s.start g.start (run from to ps) here-ranges level
          (subst (IsSorted placed_le) (sym here-same) (sorted-run placed_le old from to (omega arith) (sorted-placed old f.ranges.ordered.sorted)))
          (subst (All (λ p. s.start ≤ end_at p)) (sym (take-take 1 (to - from) (drop from ps) (omega arith))) r.long)

      -- what the round moves, with what lies before it and after it
      round-parts : moved_extents s (run at first old) ≡ run at from old ++ (moved_extents s (run from to ps) ++ moved_extents s (run to first old))
      round-parts =
          let some = g.some in
          let low = r.from in
          let high = to-within in
          let sorted = sorted-placed old f.ranges.ordered.sorted in
          let front = run at from old in
          let here = run from to ps in
          let rest = run to first old in
          let whole : run at first old ≡ (front ++ here) ++ rest =
          run-split old at to first (omega arith) high ∙ ap (λ l. l ++ rest) (run-split old at from to low (omega arith) ∙ ap (λ l. front ++ l) (sym here-same)) in
          let up : IsSorted placed_le (front ++ here) = subst (IsSorted placed_le) (run-split old at from to low (omega arith) ∙ ap (λ l. front ++ l) (sym here-same)) (sorted-run placed_le old at to (omega arith) sorted) in
          let front-before = every-run (λ p. p.offset < s.start) old at from first low (omega arith) f.before in
          let front-ranges = every-run IsRange old at from first low (omega arith) (All-take IsRange first old f.ranges.each) in
          let front-short : Every (λ p. end_at p < s.start) front = subst (Every (λ p. end_at p < s.start)) (run-same ps old at at from m.kept (omega arith)) (every-from_all (λ p. end_at p < s.start) (run at from ps) r.short) in
          let rest-before = every-run (λ p. p.offset < s.start) old to first first high (omega arith) f.before in
          let behind : Every (λ p. g.start + 1 ≤ p.offset) rest =
          every-weaker (λ p. g.start < p.offset) (λ p. g.start + 1 ≤ p.offset) (λ p e. omega arith) rest
          (subst (Every (λ p. g.start < p.offset)) (run-same ps old at to first m.kept (omega arith)) (every-from_all (λ p. g.start < p.offset) (run to first ps) (All-take (λ p. g.start < p.offset) (first - to) (drop to ps) g.behind))) in
          let below : Every (λ p. p.offset < g.start + 1) (front ++ here) =
          every-append (λ p. p.offset < g.start + 1) front here
          (front-below g.start front here (omega (arith, length-run ps from to g.within)) level up)
          (every-weaker (λ p. p.offset ≡ g.start) (λ p. p.offset < g.start + 1) (λ p e. omega arith) here level) in
          let before = every-append (λ p. p.offset < s.start) front here front-before here-before in
          ap (moved_extents s) whole
          ∙ moved-append s (g.start + 1) (front ++ here) rest (offsets-before (λ n. n < g.start + 1) s (front ++ here) before below) (offsets-before (λ n. g.start + 1 ≤ n) s rest rest-before behind)
          ∙ ap (λ l. l ++ moved_extents s rest) (moved-front s front here s.ordered front-ranges here-ranges front-before front-short here-before here-reaching up)
          ∙ append_assoc front (moved_extents s here) (moved_extents s rest)
        where
          front-below : (o : ℕ) (us vs : List (Placed P)) → 1 ≤ length vs → Every (λ p. p.offset ≡ o) vs → IsSorted placed_le (us ++ vs) → Every (λ p. p.offset < o + 1) us
          front-below o [] vs a b c = tt
          front-below o (u ∷ us) vs a b c = (head vs a b (every-right (λ q. placed_le u q ≡ true) us vs c.0), front-below o us vs a b c.1) where
            head : (ws : List (Placed P)) → 1 ≤ length ws → Every (λ p. p.offset ≡ o) ws → Every (λ q. placed_le u q ≡ true) ws → u.offset < o + 1
            head [] d e h = absurd (omega arith)
            head (w ∷ ws) d e h = omega (arith, e.0, le-offset u w h.0)

      pub round-moved : IsMovedTo s first old to (spliced from to (moved_extents s (run from to ps)) no_shift ps)
      round-moved =
          let some = g.some in
          let within = g.within in
          let same = m.same in
          let low = r.from in
          let here = run from to ps in
          let fresh = moved_extents s here in
          let rest = moved_extents s (run to first old) in
          let front = take from ps ++ fresh in
          let new : spliced from to fresh no_shift ps ≡ front ++ drop to ps = spliced-unshifted from to fresh ps ∙ sym (append_assoc (take from ps) fresh (drop to ps)) in
          let count : length front ≡ to = omega (arith, length-append (take from ps) fresh, length-take from ps, size) in
          let taken : take to (spliced from to fresh no_shift ps) ≡ front = ap (take to) new ∙ take_at front (drop to ps) to count in
          let begin : take from ps ≡ take at ps ++ run at from old = part-below ps at from low ∙ ap (λ l. take at ps ++ l) (run-same ps old at at from m.kept (omega arith)) in
          record {
            low = to-within;
            same = omega (arith, ap length new, length-append front (drop to ps), count, length-drop to ps);
            kept = ap (drop to) new ∙ drop_at front (drop to ps) to count ∙ rest-same ps old at to m.kept (omega arith);
            done = ap (λ l. l ++ rest) (taken ∙ ap (λ l. l ++ fresh) begin)
                ∙ append_assoc (take at ps ++ run at from old) fresh rest
                ∙ append_assoc (take at ps) (run at from old) (fresh ++ rest)
                ∙ ap (λ l. take at ps ++ l) (sym round-parts)
                ∙ m.done;
          }

      -- each that it moves is met
      pub round-met : (to - from) + count_by (meets_extent s) (run to first old) ≤ count_by (meets_extent s) (run at first old)
      round-met =
          let some = g.some in
          let low = r.from in
          let high = to-within in
          let here = run from to ps in
          omega (
            arith,
            ap (count_by (meets_extent s)) (run-split old at from first low (omega arith)),
            ap (count_by (meets_extent s)) (run-split old from to first (omega arith) high ∙ ap (λ l. l ++ run to first old) (sym here-same)),
            count-append (meets_extent s) (run at from old) (run from first old),
            count-append (meets_extent s) here (run to first old),
            count-all (meets_extent s) here (met here here-before here-reaching),
            length-run ps from to g.within,
          ) where
            both : (n k : ℕ) → n < s.start → s.start ≤ k → s.start ≤ s.end → (nat_le n s.end && nat_le s.start k) ≡ true
            both n k a b c = grind (arith, nat_tests)

            met : (qs : List (Placed P)) → Every (λ p. p.offset < s.start) qs → Every (λ p. s.start ≤ end_at p) qs → Every (λ p. meets_extent s p ≡ true) qs
            met [] a b = tt
            met (q ∷ qs) a b = (both q.offset (end_at q) a.0 b.0 s.ordered, met qs a.1 b.1)

-- A round's steps: of finding, of copying and of splicing.
pub round-steps : (h k n n₀ s₀ s₁ s₂ s₃ s₄ : ℕ) → 1 ≤ k → s₁ + 250 * (h + 1) * n₀ ≤ s₀ → s₂ ≤ s₁ + 81 * (h + 1) → s₃ ≤ s₂ + 2 * (h + 1) → s₄ ≤ s₃ + (162 * (h + 1) + 5 * (h + 1) * k) → k + n ≤ n₀ → s₄ + 250 * (h + 1) * n ≤ s₀
round-steps h k n n₀ s₀ s₁ s₂ s₃ s₄ some a b c d met =
    omega (arith, mul-le-mul_left (h + 1) met, mul-le-mul_left (h + 1) some)
