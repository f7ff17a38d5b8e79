-- Lists at offsets, and the entries that code them.
use Rattle.std.proofs.Common.{◌≡◌, ℕ, zero, suc, ◌+◌, ◌-◌, ◌<◌, ◌≤◌, ◌==◌, ◌^◌, min, not, cond, nat_lt, position, List, [], ◌∷◌, ◌++◌, length, map, take, drop, Some, None, refl, sym, ap, subst, ◌∙◌, arith}
use Rattle.std.specs.List.{All, slice_get, position_or_len}
use Rattle.std.proofs.lemmas.List.Elements.{All-nil, All-cons, All-head, All-tail}
use Rattle.cell_units.specs.declared.place.Shift.{Shift}
use Rattle.mark_tree.specs.declared.entry.Entry.{Entry}
use Rattle.mark_tree.specs.declared.entry.Placed.{Placed}
use Rattle.mark_tree.specs.Extents.{end_of}
use Rattle.mark_tree.specs.Entries.{extent_over, placed_at, placed_from, entry_of, coded, end_at, last_offset, IsSpaced, IsCodable, shifted}
use Rattle.mark_tree.specs.Order.{has_placed_id}

module _ {P : Type 0} where
  pub length-placed : (o : ℕ) (es : List (Entry P)) → length (placed_from o es) ≡ length es
  length-placed o [] = refl
  length-placed o (e ∷ es) = ap suc (length-placed (o + e.gap) es)

  -- the number of entries, and where the last of them is
  pub items-over : (es : List (Entry P)) → (extent_over es).items ≡ length es
  items-over [] = refl
  items-over (e ∷ es) = omega (arith, items-over es)

  pub last-placed : (o : ℕ) (es : List (Entry P)) → last_offset o (placed_from o es) ≡ o + (extent_over es).span
  last-placed o [] = omega arith
  last-placed o (e ∷ es) = omega (arith, last-placed (o + e.gap) es)

  pub placed-append : (o : ℕ) (xs ys : List (Entry P)) → placed_from o (xs ++ ys) ≡ placed_from o xs ++ placed_from (last_offset o (placed_from o xs)) ys
  placed-append o [] ys = refl
  placed-append o (x ∷ xs) ys = ap (λ l. placed_at (o + x.gap) x ∷ l) (placed-append (o + x.gap) xs ys)

  pub placed-take : (k o : ℕ) (es : List (Entry P)) → take k (placed_from o es) ≡ placed_from o (take k es)
  placed-take zero o es = refl
  placed-take (suc k) o [] = refl
  placed-take (suc k) o (e ∷ es) = ap (λ l. placed_at (o + e.gap) e ∷ l) (placed-take k (o + e.gap) es)

  pub placed-drop : (k o : ℕ) (es : List (Entry P)) → drop k (placed_from o es) ≡ placed_from (last_offset o (take k (placed_from o es))) (drop k es)
  placed-drop zero o es = refl
  placed-drop (suc k) o [] = refl
  placed-drop (suc k) o (e ∷ es) = placed-drop k (o + e.gap) es

  -- what is at a place
  pub placed-get : (k o : ℕ) (es : List (Entry P)) (e : Entry P) → slice_get es k ≡ Some e → slice_get (placed_from o es) k ≡ Some (placed_at (o + (extent_over (take k es)).span + e.gap) e)
  placed-get zero o [] e is = absurd (cc)
  placed-get zero o (x ∷ es) e is =
      let same : x ≡ e = cc in
      subst (λ y. Some (placed_at (o + y.gap) y) ≡ Some (placed_at (o + 0 + e.gap) e)) (sym same) (ap (λ n. Some (placed_at n e)) (omega arith))
  placed-get (suc k) o [] e is = absurd (cc)
  placed-get (suc k) o (x ∷ es) e is = placed-get k (o + x.gap) es e is ∙ ap (λ n. Some (placed_at n e)) (omega arith)

  pub spaced-placed : (o : ℕ) (es : List (Entry P)) → IsSpaced o (placed_from o es)
  spaced-placed o [] = tt
  spaced-placed o (e ∷ es) = (omega arith, spaced-placed (o + e.gap) es)

  -- coding a list that can be coded loses nothing
  pub placed-coded : (o : ℕ) (ps : List (Placed P)) → IsSpaced o ps → placed_from o (coded o ps) ≡ ps
  placed-coded o [] s = refl
  placed-coded o (p ∷ ps) s =
      let same : o + (p.offset - o) ≡ p.offset = omega (arith, s.0) in
      (λ i. placed_at (same i) (entry_of (p.offset - o) p) ∷ placed_from (same i) (coded p.offset ps)) ∙ ap (λ l. p ∷ l) (placed-coded p.offset ps s.1)

  pub length-coded : (o : ℕ) (ps : List (Placed P)) → length (coded o ps) ≡ length ps
  length-coded o [] = refl
  length-coded o (p ∷ ps) = ap suc (length-coded p.offset ps)

  pub last-append : (o : ℕ) (ps qs : List (Placed P)) → last_offset o (ps ++ qs) ≡ last_offset (last_offset o ps) qs
  last-append o [] qs = refl
  last-append o (p ∷ ps) qs = last-append p.offset ps qs

  pub spaced-left : (o : ℕ) (ps qs : List (Placed P)) → IsSpaced o (ps ++ qs) → IsSpaced o ps
  spaced-left o [] qs s = tt
  spaced-left o (p ∷ ps) qs s = (s.0, spaced-left p.offset ps qs s.1)

  pub spaced-right : (o : ℕ) (ps qs : List (Placed P)) → IsSpaced o (ps ++ qs) → IsSpaced (last_offset o ps) qs
  spaced-right o [] qs s = s
  spaced-right o (p ∷ ps) qs s = spaced-right p.offset ps qs s.1

  pub spaced-join : (o : ℕ) (ps qs : List (Placed P)) → IsSpaced o ps → IsSpaced (last_offset o ps) qs → IsSpaced o (ps ++ qs)
  spaced-join o [] qs s t = t
  spaced-join o (p ∷ ps) qs s t = (s.0, spaced-join p.offset ps qs s.1 t)

  -- the greatest end, counted from 0, is that of the extent
  pub ends-placed : (m o : ℕ) (es : List (Entry P)) → o + end_of (extent_over es) < m → All (λ p. end_at p < m) (placed_from o es)
  ends-placed m o [] lt = All-nil (λ p. end_at p < m)
  ends-placed m o (e ∷ es) lt =
      All-cons (λ p. end_at p < m) (placed_at (o + e.gap) e) (placed_from (o + e.gap) es) (omega arith) (ends-placed m (o + e.gap) es (omega arith))

  pub end-placed : (m o : ℕ) (es : List (Entry P)) → o < m → All (λ p. end_at p < m) (placed_from o es) → o + end_of (extent_over es) < m
  end-placed m o [] lt all = omega arith
  end-placed m o (e ∷ es) lt all =
      let first : o + e.gap + e.length < m = All-head (λ p. end_at p < m) (placed_at (o + e.gap) e) (placed_from (o + e.gap) es) all in
      let rest = end-placed m (o + e.gap) es (omega arith) (All-tail (λ p. end_at p < m) (placed_at (o + e.gap) e) (placed_from (o + e.gap) es) all) in
      omega arith

  -- what lies after a replacement keeps its gaps
  pub shifted-placed : (s : Shift) (o : ℕ) (es : List (Entry P)) → s.start ≤ s.end → s.end ≤ o → map (shifted s) (placed_from o es) ≡ placed_from (o + s.count - (s.end - s.start)) es
  shifted-placed s o [] order behind = refl
  shifted-placed s o (e ∷ es) order behind =
      let same : (o + e.gap) + s.count - (s.end - s.start) ≡ (o + s.count - (s.end - s.start)) + e.gap = omega arith in
      (λ i. placed_at (same i) e ∷ shifted-placed s (o + e.gap) es order (omega arith) i) ∙ ap (λ n. placed_at ((o + s.count - (s.end - s.start)) + e.gap) e ∷ placed_from n es) same

  -- the first entries reach no further than all of them
  pub end-taken : (k : ℕ) (es : List (Entry P)) → end_of (extent_over (take k es)) ≤ end_of (extent_over es)
  end-taken zero es = omega arith
  end-taken (suc k) [] = omega arith
  end-taken (suc k) (e ∷ es) = omega (arith, end-taken k es)

  pub offset_fits-at : (k : ℕ) (es : List (Entry P)) (e : Entry P) → slice_get es k ≡ Some e → (extent_over (take k es)).span + e.gap ≤ end_of (extent_over es)
  offset_fits-at zero [] e is = absurd (cc)
  offset_fits-at zero (x ∷ es) e is = let same : x ≡ e = cc in omega (arith, ap (λ y. y.gap) same)
  offset_fits-at (suc k) [] e is = absurd (cc)
  offset_fits-at (suc k) (x ∷ es) e is = omega (arith, offset_fits-at k es e is)

  pub taken-min : (k : ℕ) (es : List (Entry P)) → take (min k (length es)) es ≡ take k es
  taken-min zero es = let none_taken : min 0 (length es) ≡ 0 = omega arith in ap (λ n. take n es) none_taken
  taken-min (suc k) [] = let none_taken : min (suc k) 0 ≡ 0 = omega arith in ap (λ n. take n []) none_taken
  taken-min (suc k) (e ∷ es) =
      let turn : min (suc k) (length (e ∷ es)) ≡ suc (min k (length es)) = omega arith in
      ap (λ n. take n (e ∷ es)) turn ∙ ap (λ l. e ∷ l) (taken-min k es)

  pub past-none : (k : ℕ) (es : List (Entry P)) → slice_get es k ≡ None → length es ≤ k
  past-none k [] is = omega arith
  past-none zero (e ∷ es) is = absurd (cc)
  past-none (suc k) (e ∷ es) is = omega (arith, past-none k es is)

  pub slice-within : (k : ℕ) (es : List (Entry P)) (e : Entry P) → slice_get es k ≡ Some e → k < length es
  slice-within k [] e is = absurd (cc)
  slice-within zero (x ∷ es) e is = omega arith
  slice-within (suc k) (x ∷ es) e is = omega (arith, slice-within k es e is)

  -- what is kept can be coded
  pub codable-placed : (es : List (Entry P)) → end_of (extent_over es) < 2 ^ 32 → length (placed_from 0 es) < 2 ^ 32 → IsCodable (placed_from 0 es)
  codable-placed es fits small = record {
    spaced = spaced-placed 0 es;
    ends = ends-placed (2 ^ 32) 0 es (omega arith);
    small = small;
  }

  -- the first place of an id is the same in the list with offsets and in the entries
  pub position-placed : (id o : ℕ) (es : List (Entry P)) → position (λ e. e.id == id) es ≡ position (has_placed_id id) (placed_from o es)
  position-placed id o es = λ i. cond (nat_lt (go o es i) (sym (length-placed o es) i)) (Some (go o es i)) None where
    go : (n : ℕ) (fs : List (Entry P)) → position_or_len (λ e. e.id == id) fs ≡ position_or_len (has_placed_id id) (placed_from n fs)
    go n [] = refl
    go n (f ∷ fs) = ap (λ k. cond (not (f.id == id)) (1 + k) 0) (go (n + f.gap) fs)
