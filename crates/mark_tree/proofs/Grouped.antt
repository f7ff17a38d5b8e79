-- Moving ranges start by start, those that start before a replacement.
use Rattle.std.proofs.Common.{◌≡◌, ℕ, ◌+◌, ◌-◌, ◌<◌, ◌≤◌, ◌^◌, true, List, [], ◌∷◌, ◌++◌, length, take, drop, sym, ap, subst, ◌∙◌, arith, ◌⊎◌, inl, inr, Some, drop-drop}
use Rattle.std.specs.List.{All, slice_get}
use Rattle.std.proofs.lemmas.List.{length-append, length-take, length-drop, take-append-drop}
use Rattle.std.proofs.lemmas.List.Elements.{All-head, All-take, All-drop}
use Rattle.cell_units.specs.declared.place.Shift.{Shift}
use Rattle.cell_units.specs.Record.{bias_rank}
use Rattle.cell_units.specs.Sorting.{sort_by}
use Rattle.mark_tree.specs.declared.entry.Placed.{Placed}
use Rattle.mark_tree.specs.Entries.{IsCodable, IsSpaced, end_at, last_offset, run, spliced}
use Rattle.mark_tree.specs.Order.{placed_le}
use Rattle.mark_tree.specs.RangeViews.{IsFittingMoved, IsGroup, IsRange, all_left_over, is_left_over, move_extent, moved_extents}
use Rattle.mark_tree.proofs.Changing.{all-from_every, every-from_all, no_shift, shifted-none}
use Rattle.mark_tree.proofs.Coding.{spaced-left, spaced-right, spaced-join}
use Rattle.mark_tree.proofs.LeftOver.{end-reaching, less-or-not, left-append, left-short, length-before, start-before}
use Rattle.mark_tree.proofs.Moved.{cross, three-parts}
use Rattle.mark_tree.proofs.Order.{in_order-below, in_order-cases, in_order-same, le-offset, offset-le}
use Rattle.mark_tree.proofs.Runs.{every-run, length-run}
use Rattle.mark_tree.proofs.Shrunk.{codable-left, each-left}
use Rattle.mark_tree.proofs.Splicing.{drop-at, head-drop}
use Rattle.mark_tree.proofs.Sorting.{Every, IsSorted, every-append, every-right, every-sort, every-weaker, length-sort, sort-append, sort-sorted, sorted-left}

module _ {P : Type 0} where
  -- what is left of runs whose offsets don't meet is sorted run by run
  pub moved-append : (s : Shift) (m : ℕ) (ps qs : List (Placed P)) → Every (λ p. p.offset < m) (all_left_over s ps) → Every (λ q. m ≤ q.offset) (all_left_over s qs) → moved_extents s (ps ++ qs) ≡ moved_extents s ps ++ moved_extents s qs
  moved-append s m ps qs a b =
      ap (sort_by placed_le) (left-append s ps qs) ∙ sort-append placed_le (all_left_over s ps) (all_left_over s qs) (cross m (all_left_over s ps) (all_left_over s qs) a b)

  -- what starts before keeps its offset
  pub offsets-before : (Q : ℕ → Type 0) (s : Shift) (ps : List (Placed P)) → Every (λ p. p.offset < s.start) ps → Every (λ p. Q p.offset) ps → Every (λ p. Q p.offset) (all_left_over s ps)
  offsets-before Q s ps a b = each-left (λ p. Q p.offset) s ps (go ps a b) where
    go : (qs : List (Placed P)) → Every (λ p. p.offset < s.start) qs → Every (λ p. Q p.offset) qs → Every (λ p. is_left_over s p ≡ true → Q (move_extent s p).offset) qs
    go [] c d = tt
    go (q ∷ qs) c d = ((λ e. subst Q (sym (start-before s q c.0)) d.0), go qs c.1 d.1)

  -- a range that ends before the replacement stays before one that reached it
  le-reaching : (s : Shift) (p q : Placed P) → s.start ≤ s.end → IsRange p → IsRange q → end_at p < s.start → q.offset < s.start → s.start ≤ end_at q → placed_le p q ≡ true → placed_le p (move_extent s q) ≡ true
  le-reaching s p q order a b short before reaching is =
      let start = start-before s q before in
      let end = end-reaching s q order reaching in
      let low = le-offset p q is in
      elim (less-or-same p.offset (move_extent s q).offset (omega arith)) [
        | inl lt ↦ offset-le p (move_extent s q) lt
        | inr same ↦
            in_order-same p.offset (move_extent s q).offset _ same
            (in_order-same (bias_rank p.bias) (bias_rank q.bias) _ (ap bias_rank (a.right ∙ sym b.right))
            (in_order-below p.length (move_extent s q).length _ (omega arith)))
      ] where
        less-or-same : (m n : ℕ) → m ≤ n → (m < n) ⊎ (m ≡ n)
        less-or-same m n le = grind arith

  cross-reaching : (s : Shift) (ps qs : List (Placed P)) → s.start ≤ s.end → Every IsRange ps → Every IsRange qs → Every (λ p. end_at p < s.start) ps → Every (λ q. q.offset < s.start) qs → Every (λ q. s.start ≤ end_at q) qs
      → IsSorted placed_le (ps ++ qs) → Every (λ p. Every (λ q. placed_le p q ≡ true) (all_left_over s qs)) ps
  cross-reaching s [] qs order a b short before reaching up = tt
  cross-reaching s (p ∷ ps) qs order a b short before reaching up =
      (each-left (λ q. placed_le p q ≡ true) s qs (go qs b before reaching (every-right (λ q. placed_le p q ≡ true) ps qs up.0)), cross-reaching s ps qs order a.1 b short.1 before reaching up.1) where
        go : (us : List (Placed P)) → Every IsRange us → Every (λ q. q.offset < s.start) us → Every (λ q. s.start ≤ end_at q) us → Every (λ q. placed_le p q ≡ true) us → Every (λ q. is_left_over s q ≡ true → placed_le p (move_extent s q) ≡ true) us
        go [] c d e f = tt
        go (u ∷ us) c d e f = ((λ _. le-reaching s p u order a.0 c.0 short.0 d.0 e.0 f.0), go us c.1 d.1 e.1 f.1)

  -- ranges that end before the replacement stay before those that reach it
  pub moved-front : (s : Shift) (ps qs : List (Placed P)) → s.start ≤ s.end → Every IsRange ps → Every IsRange qs → Every (λ p. p.offset < s.start) ps → Every (λ p. end_at p < s.start) ps → Every (λ q. q.offset < s.start) qs → Every (λ q. s.start ≤ end_at q) qs
      → IsSorted placed_le (ps ++ qs) → moved_extents s (ps ++ qs) ≡ ps ++ moved_extents s qs
  moved-front s ps qs order a b before short before' reaching up =
      ap (sort_by placed_le) (left-append s ps qs ∙ ap (λ l. l ++ all_left_over s qs) (left-short s ps order a before short))
      ∙ sort-append placed_le ps (all_left_over s qs) (cross-reaching s ps qs order a b short before' reaching up)
      ∙ ap (λ l. l ++ moved_extents s qs) (sort-sorted placed_le ps (sorted-left placed_le ps qs up))

  -- the last of ranges that start at one offset reach as far as the first
  le-length : (p q : Placed P) → IsRange p → IsRange q → p.offset ≡ q.offset → placed_le p q ≡ true → p.length ≤ q.length
  le-length p q a b same is = elim (in_order-cases p.offset q.offset _ is) [
    | inl lt ↦ absurd (omega arith)
    | inr e ↦ elim (in_order-cases (bias_rank p.bias) (bias_rank q.bias) _ e.1) [
      | inl lt ↦ absurd (omega (arith, lt, ap bias_rank (a.right ∙ sym b.right)))
      | inr f ↦ elim (in_order-cases p.length q.length _ f.1) [
        | inl lt ↦ omega (arith, lt)
        | inr g ↦ omega (arith, g.0)
      ]
    ]
  ]

  pub all-reaching : (m o : ℕ) (ps : List (Placed P)) → Every IsRange ps → Every (λ p. p.offset ≡ o) ps → IsSorted placed_le ps → All (λ p. m ≤ end_at p) (take 1 ps) → Every (λ p. m ≤ end_at p) ps
  all-reaching m o [] a level up first = tt
  all-reaching m o (p ∷ ps) a level up first =
      let here : m ≤ end_at p = All-head (λ q. m ≤ end_at q) p [] first in
      (here, go ps a.1 level.1 up.0) where
        go : (qs : List (Placed P)) → Every IsRange qs → Every (λ q. q.offset ≡ o) qs → Every (λ q. placed_le p q ≡ true) qs → Every (λ q. m ≤ end_at q) qs
        go [] b c d = tt
        go (q ∷ qs) b c d = (omega (arith, le-length p q a.0 b.0 (level.0 ∙ sym c.0) d.0, level.0, c.0, All-head (λ r. m ≤ end_at r) p [] first), go qs b.1 c.1 d.1)

  -- what starts at one offset, in the place of what starts there
  spaced-below : (b o : ℕ) (ps : List (Placed P)) → b ≤ o → IsSpaced o ps → IsSpaced b ps
  spaced-below b o [] le s = tt
  spaced-below b o (p ∷ ps) le s = (omega (arith, s.0), s.1)

  spaced-above : (b o : ℕ) (ps : List (Placed P)) → Every (λ p. o < p.offset) ps → IsSpaced b ps → IsSpaced o ps
  spaced-above b o [] a s = tt
  spaced-above b o (p ∷ ps) a s = (omega (arith, a.0), s.1)

  spaced-level : (b o : ℕ) (ps qs : List (Placed P)) → Every (λ p. p.offset ≡ o) ps → b ≤ o → IsSpaced o qs → IsSpaced b (ps ++ qs)
  spaced-level b o [] qs a le s = spaced-below b o qs le s
  spaced-level b o (p ∷ ps) qs a le s = (omega (arith, a.0), spaced-level p.offset o ps qs a.1 (omega (arith, a.0)) s)

  head-low : (b o : ℕ) (ps qs : List (Placed P)) → 1 ≤ length ps → Every (λ p. p.offset ≡ o) ps → IsSpaced b (ps ++ qs) → b ≤ o
  head-low b o [] qs some a s = absurd (omega arith)
  head-low b o (p ∷ ps) qs some a s = omega (arith, a.0, s.0)

  pub spliced-unshifted : (from to : ℕ) (fresh ps : List (Placed P)) → spliced from to fresh no_shift ps ≡ take from ps ++ (fresh ++ drop to ps)
  spliced-unshifted from to fresh ps = ap (λ l. take from ps ++ (fresh ++ l)) (shifted-none (drop to ps))

  spaced-group : (from to : ℕ) (ps fresh : List (Placed P)) → IsSpaced 0 ps → (g : IsGroup from to ps) → Every (λ p. p.offset ≡ g.start) fresh → IsSpaced 0 (take from ps ++ (fresh ++ drop to ps))
  spaced-group from to ps fresh s g level =
      let some = g.some in
      let within = g.within in
      let here = run from to ps in
      let rest = drop to ps in
      let base = last_offset 0 (take from ps) in
      let parts : IsSpaced 0 (take from ps ++ (here ++ rest)) = subst (IsSpaced 0) (three-parts ps from to (omega arith)) s in
      let back : IsSpaced base (here ++ rest) = spaced-right 0 (take from ps) (here ++ rest) parts in
      let low : base ≤ g.start = head-low base g.start here rest (omega (arith, length-run ps from to within)) (every-from_all (λ p. p.offset ≡ g.start) here g.level) back in
      let behind : IsSpaced g.start rest = spaced-above (last_offset base here) g.start rest (every-from_all (λ p. g.start < p.offset) rest g.behind) (spaced-right base here rest back) in
      spaced-join 0 (take from ps) (fresh ++ rest) (spaced-left 0 (take from ps) (here ++ rest) parts) (spaced-level base g.start fresh rest level low behind)

  -- ranges that start before the replacement, at one offset
  pub moved-level : (s : Shift) (o : ℕ) (ps : List (Placed P)) → Every (λ p. p.offset < s.start) ps → Every (λ p. p.offset ≡ o) ps → Every (λ p. p.offset ≡ o) (moved_extents s ps)
  moved-level s o ps before level = every-sort placed_le (λ p. p.offset ≡ o) (all_left_over s ps) (offsets-before (λ n. n ≡ o) s ps before level)

  pub length-moved_before : (s : Shift) (ps : List (Placed P)) → s.start ≤ s.end → Every IsRange ps → Every (λ p. p.offset < s.start) ps → length (moved_extents s ps) ≡ length ps
  length-moved_before s ps order a before = length-sort placed_le (all_left_over s ps) ∙ length-before s ps order a before

  pub codable-group : (s : Shift) (from to : ℕ) (ps : List (Placed P)) → s.start ≤ s.end → IsCodable ps → IsGroup from to ps → Every IsRange (run from to ps) → Every (λ p. p.offset < s.start) (run from to ps) → All (IsFittingMoved s) (run from to ps)
      → IsCodable (spliced from to (moved_extents s (run from to ps)) no_shift ps)
  codable-group s from to ps order c g a before fits =
      let some = g.some in
      let within = g.within in
      let small = c.small in
      let here = run from to ps in
      let fresh = moved_extents s here in
      let size : length here ≡ to - from = length-run ps from to within in
      let made = codable-left s here fits (omega arith) in
      let Q : Placed P → Type 0 = λ p. end_at p < 2 ^ 32 in
      subst IsCodable (sym (spliced-unshifted from to fresh ps)) record {
        spaced = spaced-group from to ps fresh c.spaced g (moved-level s g.start here before (every-from_all (λ p. p.offset ≡ g.start) here g.level));
        ends = all-from_every Q (take from ps ++ (fresh ++ drop to ps))
            (every-append Q (take from ps) (fresh ++ drop to ps) (every-from_all Q (take from ps) (All-take Q from ps c.ends))
            (every-append Q fresh (drop to ps) (every-from_all Q fresh made.ends) (every-from_all Q (drop to ps) (All-drop Q to ps c.ends))));
        small = omega (arith, length-append (take from ps) (fresh ++ drop to ps), length-append fresh (drop to ps), length-moved_before s here order a before, length-take from ps, length-drop to ps);
      }

  -- the group of the one at a place ends before the first at a later offset
  spaced-every : (o : ℕ) (ps : List (Placed P)) → IsSpaced o ps → Every (λ p. o ≤ p.offset) ps
  spaced-every o [] s = tt
  spaced-every o (p ∷ ps) s = (s.0, every-weaker (λ q. p.offset ≤ q.offset) (λ q. o ≤ q.offset) (λ q le. omega (arith, le, s.0)) ps (spaced-every p.offset ps s.1))

  all-level : (o : ℕ) (ps : List (Placed P)) → Every (λ p. o ≤ p.offset) ps → Every (λ p. p.offset < o + 1) ps → Every (λ p. p.offset ≡ o) ps
  all-level o [] a b = tt
  all-level o (p ∷ ps) a b = (omega (arith, a.0, b.0), all-level o ps a.1 b.1)

  pub group-found : (ps : List (Placed P)) (from to : ℕ) (p : Placed P) → IsSpaced 0 ps → slice_get ps from ≡ Some p → to ≤ length ps → All (λ q. q.offset < p.offset + 1) (take to ps) → All (λ q. p.offset + 1 ≤ q.offset) (drop to ps) → IsGroup from to ps
  group-found ps from to p s is within below above =
      let there : drop from ps ≡ p ∷ drop (from + 1) ps = drop-at ps from p is in
      let rest : IsSpaced (last_offset 0 (take from ps)) (p ∷ drop (from + 1) ps) = subst (IsSpaced (last_offset 0 (take from ps))) there (spaced-right 0 (take from ps) (drop from ps) (subst (IsSpaced 0) (sym (take-append-drop from ps)) s)) in
      let back : Every (λ q. p.offset ≤ q.offset) (drop from ps) = subst (Every (λ q. p.offset ≤ q.offset)) (sym there) (omega arith, spaced-every p.offset (drop (from + 1) ps) rest.1) in
      let some : from < to = elim (less-or-not from to) [
        | inl lt ↦ lt
        | inr le ↦
            let here : to + (from - to) ≡ from = omega arith in
            let later : All (λ q. p.offset + 1 ≤ q.offset) (drop from ps) = subst (All (λ q. p.offset + 1 ≤ q.offset)) (drop-drop (from - to) to ps ∙ ap (λ n. drop n ps) here) (All-drop (λ q. p.offset + 1 ≤ q.offset) (from - to) (drop to ps) above) in
            absurd (omega (arith, head-drop (λ q. p.offset + 1 ≤ q.offset) ps from p is later))
      ] in
      record {
        some = some;
        within = within;
        start = p.offset;
        level = all-from_every (λ q. q.offset ≡ p.offset) (run from to ps)
            (all-level p.offset (run from to ps) (every-from_all (λ q. p.offset ≤ q.offset) (run from to ps) (All-take (λ q. p.offset ≤ q.offset) (to - from) (drop from ps) (all-from_every (λ q. p.offset ≤ q.offset) (drop from ps) back)))
            (every-run (λ q. q.offset < p.offset + 1) ps from to to (omega arith) (omega arith) below));
        behind = all-from_every (λ q. p.offset < q.offset) (drop to ps) (every-weaker (λ q. p.offset + 1 ≤ q.offset) (λ q. p.offset < q.offset) (λ q le. omega arith) (drop to ps) (every-from_all (λ q. p.offset + 1 ≤ q.offset) (drop to ps) above));
      }
