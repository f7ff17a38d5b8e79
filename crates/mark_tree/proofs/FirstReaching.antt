-- Where the first thing is that reaches an offset: at the place asked, or where a cursor is that sought by end.
use Rattle.std.proofs.Common.{◌≡◌, ℕ, zero, suc, ◌+◌, ◌-◌, ◌<◌, ◌≤◌, List, Some, [], ◌∷◌, length, take, drop, sym, ap, subst, arith}
use Rattle.std.specs.List.{All, slice_get}
use Rattle.std.specs.Ordering.{nat_cmp}
use Rattle.std.proofs.lemmas.List.{length-drop, drop-drop}
use Rattle.std.proofs.lemmas.List.Elements.{All-nil, All-cons}
use Rattle.cell_units.specs.declared.place.Bias.TheVariants.{Left}
use Rattle.sum_tree.specs.Cursors.{IsSought}
use Rattle.mark_tree.specs.declared.entry.Entry.{Entry}
use Rattle.mark_tree.specs.declared.entry.Placed.{Placed}
use Rattle.mark_tree.specs.Extents.{none, both, by_end, end_of}
use Rattle.mark_tree.specs.Entries.{extent_of, extent_over, placed_at, placed_from, end_at}
use Rattle.mark_tree.specs.Reaching.{IsFirstReaching}
use Rattle.mark_tree.proofs.Coding.{ends-placed, length-placed, placed-take}
use Rattle.mark_tree.proofs.Seeking.{above-from_not_le, below-from_le}

module _ {P : Type 0} where
  short-below : (m o k : ℕ) (es : List (Entry P)) → (1 ≤ k → o + end_of (extent_over (take k es)) < m) → All (λ p. end_at p < m) (take k (placed_from o es))
  short-below m o zero es low = All-nil (λ p. end_at p < m)
  short-below m o (suc k) es low = subst (All (λ p. end_at p < m)) (sym (placed-take (suc k) o es)) (ends-placed m o (take (suc k) es) (low (omega arith)))

  -- where the first k entries don't reach an offset, and with one more they do, that one does
  long-at : (m o k : ℕ) (es : List (Entry P)) → (1 ≤ k → o + end_of (extent_over (take k es)) < m) → (k < length es → m ≤ o + end_of (extent_over (take (suc k) es))) → All (λ p. m ≤ end_at p) (take 1 (drop k (placed_from o es)))
  long-at m o zero [] low high = All-nil (λ p. m ≤ end_at p)
  long-at m o (suc k) [] low high = All-nil (λ p. m ≤ end_at p)
  long-at m o zero (e ∷ es) low high =
      let reached : m ≤ o + end_of (extent_over (take 1 (e ∷ es))) = high (omega arith) in
      All-cons (λ p. m ≤ end_at p) (placed_at (o + e.gap) e) [] (omega arith) (All-nil (λ p. m ≤ end_at p))
  long-at m o (suc k) (e ∷ es) low high =
      let before : o + end_of (extent_over (take (suc k) (e ∷ es))) < m = low (omega arith) in
      long-at m (o + e.gap) k es (λ some. omega arith) (λ more. let reached = high (omega arith) in omega arith)

  -- a cursor that sought an end in entries, of which the first one's gap is from `base`
  pub short-counted : (es : List (Entry P)) (offset base place : ℕ)
      → IsSought none both extent_of by_end (λ a b. nat_cmp a.end b.end) es (record { end = offset - base; span = 0; items = 0 }) Left place
      → IsFirstReaching 0 offset (placed_from base es) (place - 1)
  short-counted es offset base place s =
      let some = s.past_start in
      let few = s.at_most_past_end in
      let low : 1 ≤ place - 1 → base + end_of (extent_over (take (place - 1) es)) < offset =
      (λ a. let not = above-from_not_le (offset - base) (end_of (extent_over (take (place - 1) es))) (s.none_before (place - 1) a (omega arith)) in omega arith) in
      let turn : suc (place - 1) ≡ place = omega arith in
      let high : place - 1 < length es → offset ≤ base + end_of (extent_over (take (suc (place - 1)) es)) =
      (λ a. subst (λ n. offset ≤ base + end_of (extent_over (take n es))) (sym turn)
      (let met = below-from_le (offset - base) (end_of (extent_over (take place es))) (s.reached (omega arith)) in omega arith)) in
      let back : (place - 1) - 0 ≡ place - 1 = omega arith in
      record {
        from = omega arith;
        within = omega (arith, length-placed base es);
        short = subst (λ n. All (λ p. end_at p < offset) (take n (placed_from base es))) (sym back) (short-below offset base (place - 1) es low);
        long = long-at offset base (place - 1) es low high;
      }

  -- what there is from a place on, counted from there
  pub reaching-behind : (at offset k : ℕ) (ps : List (Placed P)) → at ≤ length ps → IsFirstReaching 0 offset (drop at ps) k → IsFirstReaching at offset ps (at + k)
  reaching-behind at offset k ps in' r =
      let back : (at + k) - at ≡ k - 0 = omega arith in
      record {
        from = omega arith;
        within = omega (arith, r.within, length-drop at ps);
        short = subst (λ n. All (λ p. end_at p < offset) (take n (drop at ps))) (sym back) r.short;
        long = subst (λ l. All (λ p. offset ≤ end_at p) (take 1 l)) (drop-drop k at ps) r.long;
      }

  there-first : (at : ℕ) (ps : List (Placed P)) (p : Placed P) → slice_get ps at ≡ Some p → take 1 (drop at ps) ≡ p ∷ []
  there-first at [] p is = absurd (cc)
  there-first zero (q ∷ ps) p is = let same : q ≡ p = cc in ap (λ r. r ∷ []) same
  there-first (suc at) (q ∷ ps) p is = there-first at ps p is

  -- the thing at the place itself reaches the offset, or there is none
  pub reaching-there : (at offset : ℕ) (ps : List (Placed P)) (p : Placed P) → slice_get ps at ≡ Some p → at ≤ length ps → offset ≤ end_at p → IsFirstReaching at offset ps at
  reaching-there at offset ps p is in' far =
      let back : at - at ≡ 0 = omega arith in
      record {
        from = omega arith;
        within = in';
        short = subst (λ n. All (λ q. end_at q < offset) (take n (drop at ps))) (sym back) (All-nil (λ q. end_at q < offset));
        long = subst (All (λ q. offset ≤ end_at q)) (sym (there-first at ps p is)) (All-cons (λ q. offset ≤ end_at q) p [] far (All-nil (λ q. offset ≤ end_at q)));
      }
