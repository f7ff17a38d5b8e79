-- Where a cursor is that sought by number, by offset or by end.
use Rattle.std.proofs.Common.{◌≡◌, ℕ, zero, suc, ◌+◌, ◌-◌, ◌<◌, ◌≤◌, min, true, false, List, [], ◌∷◌, length, take, drop, get_or, Option, Some, None, refl, sym, ap, subst, ◌∙◌, arith, add-one, add-zero}
use Rattle.std.specs.List.{All, slice_get}
use Rattle.std.specs.Option.{MatchOption}
use Rattle.std.specs.Ordering.{is_lt, is_le, nat_cmp}
use Rattle.std.proofs.lemmas.List.{length-take, length-drop, get_or-drop, get_or-take}
use Rattle.std.proofs.lemmas.List.Elements.{All-nil, All-cons}
use Rattle.std.proofs.lemmas.Bool.Decides.{nat_tests}
use Rattle.cell_units.specs.declared.place.Bias.TheVariants.{Left, Right}
use Rattle.sum_tree.specs.Cursors.{IsSought, last_of}
use Rattle.mark_tree.specs.declared.entry.Entry.{Entry}
use Rattle.mark_tree.specs.declared.entry.Placed.{Placed}
use Rattle.mark_tree.specs.Extents.{none, both, by_items, by_offset}
use Rattle.mark_tree.specs.Entries.{extent_of, extent_over, placed_from, last_offset, IsSpaced}
use Rattle.mark_tree.proofs.Coding.{items-over, length-placed, spaced-placed, placed-drop, slice-within, past-none, taken-min}

above-from_not_lt : (m n : ℕ) → is_lt (nat_cmp m n) ≡ false → n ≤ m
above-from_not_lt m n e = grind (arith, nat_tests)

below-from_lt : (m n : ℕ) → is_lt (nat_cmp m n) ≡ true → m < n
below-from_lt m n e = grind (arith, nat_tests)

pub above-from_not_le : (m n : ℕ) → is_le (nat_cmp m n) ≡ false → n < m
above-from_not_le m n e = grind (arith, nat_tests)

pub below-from_le : (m n : ℕ) → is_le (nat_cmp m n) ≡ true → m ≤ n
below-from_le m n e = grind (arith, nat_tests)

sought-number : (at place n : ℕ) → 1 ≤ place → place ≤ n + 1 → (1 ≤ place - 1 → place - 1 < place → min (place - 1) n ≤ at) → (place ≤ n → at < min place n) → place ≡ min at n + 1
sought-number at place n some few low high = grind arith

-- what a clause says of no value holds where it is not that there is one
pub match-none : {X : Type 0} (r : Option X) (A : Type 0) (B : X → Type 0) → ((x : X) → r ≡ Some x → ⊥) → MatchOption r A B → A
match-none None A B not m = m
match-none (Some x) A B not m = absurd (not x refl)

module _ {P : Type 0} where
  pub items-taken : (k : ℕ) (es : List (Entry P)) → (extent_over (take k es)).items ≡ min k (length es)
  items-taken k es = items-over (take k es) ∙ length-take k es

  -- a cursor that sought the number `at` is on the entry there, or past the last
  pub place-by_items : (es : List (Entry P)) (at place : ℕ) → IsSought none both extent_of by_items (λ a b. nat_cmp a.items b.items) es (record { items = at; span = 0 }) Right place → place ≡ min at (length es) + 1
  place-by_items es at place s =
      let low : (k : ℕ) → 1 ≤ k → k < place → min k (length es) ≤ at =
      (λ k a b. subst (λ n. n ≤ at) (items-taken k es) (above-from_not_lt at (extent_over (take k es)).items (s.none_before k a b))) in
      let high : place ≤ length es → at < min place (length es) =
      (λ a. subst (λ n. at < n) (items-taken place es) (below-from_lt at (extent_over (take place es)).items (s.reached a))) in
      let some = s.past_start in
      let few = s.at_most_past_end in
      sought-number at place (length es) some few (low (place - 1)) high

  -- the offset at a place
  offset-at : (k o : ℕ) (es : List (Entry P)) (d : Placed P) → k < length es → (get_or (placed_from o es) k d).offset ≡ o + (extent_over (take (suc k) es)).span
  offset-at k o [] d lt = absurd (omega arith)
  offset-at zero o (e ∷ es) d lt = omega arith
  offset-at (suc k) o (e ∷ es) d lt = omega (arith, offset-at k (o + e.gap) es d (omega arith))

  -- whether a cursor is past the last
  pub last-none : (es : List (Entry P)) (place : ℕ) → 1 ≤ place → last_of es place ≡ None → length es < place
  last-none es zero some is = absurd (omega arith)
  last-none es (suc k) some is = omega (arith, past-none k es is)

  pub last-some : (es : List (Entry P)) (place : ℕ) (e : Entry P) → 1 ≤ place → last_of es place ≡ Some e → place ≤ length es
  last-some es zero e some is = absurd (omega arith)
  last-some es (suc k) e some is = omega (arith, slice-within k es e is)

  -- the offset of what a cursor is on, or none past the last
  pub next-offset : (es : List (Entry P)) (ps : List (Placed P)) (at place : ℕ) (r : Option ℕ) (d : Placed P) → placed_from 0 es ≡ ps → 1 ≤ place → at ≡ min (place - 1) (length es)
      → MatchOption r (length es < place) (λ o. (place ≤ length es) × (o ≡ (extent_over (take place es)).span))
      → MatchOption r (length ps ≤ at) (λ o. (get_or ps at d).offset ≡ o)
  next-offset es ps at place None d shown some is m = omega (arith, length-placed 0 es, ap length shown)
  next-offset es ps at place (Some o) d shown some is m =
      let turn : suc (place - 1) ≡ place = omega arith in
      let same : place - 1 ≡ at = omega (arith, m.0) in
      let first : (get_or (placed_from 0 es) (place - 1) d).offset ≡ 0 + (extent_over (take place es)).span =
      subst (λ n. (get_or (placed_from 0 es) (place - 1) d).offset ≡ 0 + (extent_over (take n es)).span) turn (offset-at (place - 1) 0 es d (omega (arith, m.0))) in
      let here : (get_or ps at d).offset ≡ 0 + (extent_over (take place es)).span =
      subst (λ k. (get_or ps k d).offset ≡ 0 + (extent_over (take place es)).span) same (subst (λ l. (get_or l (place - 1) d).offset ≡ 0 + (extent_over (take place es)).span) shown first) in
      omega (arith, here, m.1)

  all-from : (o : ℕ) (ps : List (Placed P)) → IsSpaced o ps → All (λ p. o ≤ p.offset) ps
  all-from o [] s = All-nil (λ p. o ≤ p.offset)
  all-from o (p ∷ ps) s = All-cons (λ q. o ≤ q.offset) p ps s.0 (all-from o ps (raise ps s.1)) where
    raise : (qs : List (Placed P)) → IsSpaced p.offset qs → IsSpaced o qs
    raise [] t = tt
    raise (q ∷ qs) t = (omega (arith, s.0, t.0), t.1)

  spaced-from_head : (o b : ℕ) (ps : List (Placed P)) → IsSpaced b ps → ((d : Placed P) → 0 < length ps → o ≤ (get_or ps 0 d).offset) → IsSpaced o ps
  spaced-from_head o b [] s h = tt
  spaced-from_head o b (p ∷ ps) s h = (h p (omega arith), s.1)

  pub before-offset : (es : List (Entry P)) (offset place : ℕ) → IsSought none both extent_of by_offset (λ a b. nat_cmp a.span b.span) es (record { span = offset; items = 0 }) Left place
      → All (λ p. p.offset < offset) (take (place - 1) (placed_from 0 es))
  before-offset es offset place s k d lt =
      let some = s.past_start in
      let few = s.at_most_past_end in
      let shorter = length-take (place - 1) (placed_from 0 es) in
      let same = length-placed 0 es in
      let within : k < place - 1 = omega arith in
      let below : (extent_over (take (k + 1) es)).span < offset = above-from_not_le offset (extent_over (take (k + 1) es)).span (s.none_before (k + 1) (omega arith) (omega arith)) in
      let here : (get_or (placed_from 0 es) k d).offset ≡ 0 + (extent_over (take (k + 1) es)).span = subst (λ n. (get_or (placed_from 0 es) k d).offset ≡ 0 + (extent_over (take n es)).span) (sym (add-one k)) (offset-at k 0 es d (omega arith)) in
      subst (λ (p : Placed P). p.offset < offset) (sym (get_or-take (place - 1) (placed_from 0 es) k d within)) (omega arith)

  pub from-offset : (es : List (Entry P)) (offset place : ℕ) → IsSought none both extent_of by_offset (λ a b. nat_cmp a.span b.span) es (record { span = offset; items = 0 }) Left place
      → All (λ p. offset ≤ p.offset) (drop (place - 1) (placed_from 0 es))
  from-offset es offset place s =
      let some = s.past_start in
      let few = s.at_most_past_end in
      all-from offset (drop (place - 1) (placed_from 0 es))
      (spaced-from_head offset (last_offset 0 (take (place - 1) (placed_from 0 es))) (drop (place - 1) (placed_from 0 es))
      (subst (λ l. IsSpaced (last_offset 0 (take (place - 1) (placed_from 0 es))) l) (sym (placed-drop (place - 1) 0 es)) (spaced-placed (last_offset 0 (take (place - 1) (placed_from 0 es))) (drop (place - 1) es)))
      (λ d more.
      let longer = length-drop (place - 1) (placed_from 0 es) in
      let within : place ≤ length es = omega (arith, length-placed 0 es) in
      let reached : offset ≤ (extent_over (take place es)).span = below-from_le offset (extent_over (take place es)).span (s.reached within) in
      let turn : suc (place - 1) ≡ place = omega arith in
      let here : (get_or (placed_from 0 es) (place - 1) d).offset ≡ 0 + (extent_over (take place es)).span = subst (λ n. (get_or (placed_from 0 es) (place - 1) d).offset ≡ 0 + (extent_over (take n es)).span) turn (offset-at (place - 1) 0 es d (omega arith)) in
      subst (λ (p : Placed P). offset ≤ p.offset) (sym (get_or-drop (place - 1) (placed_from 0 es) 0 d ∙ ap (λ n. get_or (placed_from 0 es) n d) (add-zero (place - 1)))) (omega arith)))

  -- where the thing at a place lies after an offset, so does all from there on
  pub behind-here : (offset : ℕ) (ps : List (Placed P)) (at o : ℕ) → IsSpaced 0 ps → ((d : Placed P) → (get_or ps at d).offset ≡ o) → offset ≤ o → All (λ p. offset ≤ p.offset) (drop at ps)
  behind-here offset ps at o s here le =
      all-from offset (drop at ps)
      (spaced-from_head offset (last_offset 0 (take at ps)) (drop at ps) (spaced-dropped at 0 ps s)
      (λ d more. subst (λ (p : Placed P). offset ≤ p.offset) (sym (get_or-drop at ps 0 d ∙ ap (λ n. get_or ps n d) (add-zero at))) (omega (arith, here d)))) where
        spaced-dropped : (k b : ℕ) (qs : List (Placed P)) → IsSpaced b qs → IsSpaced (last_offset b (take k qs)) (drop k qs)
        spaced-dropped zero b qs t = t
        spaced-dropped (suc k) b [] t = tt
        spaced-dropped (suc k) b (q ∷ qs) t = spaced-dropped k q.offset qs t.1

  pub none-behind : (offset : ℕ) (ps : List (Placed P)) (at : ℕ) → length ps ≤ at → All (λ p. offset ≤ p.offset) (drop at ps)
  none-behind offset ps at past k d lt = absurd (omega (arith, length-drop at ps))

  -- what a cursor is on that is at a number
  item-on : (es : List (Entry P)) (at place : ℕ) → place ≡ min at (length es) + 1 → last_of es place ≡ slice_get es (min at (length es))
  item-on es at place is = ap (last_of es) (is ∙ add-one (min at (length es)))

  pub found-at : (es : List (Entry P)) (at place : ℕ) (e : Entry P) → place ≡ min at (length es) + 1 → last_of es place ≡ Some e → slice_get es at ≡ Some e
  found-at es at place e is found =
      let here : slice_get es (min at (length es)) ≡ Some e = sym (item-on es at place is) ∙ found in
      let within = slice-within (min at (length es)) es e here in
      let turn : min at (length es) ≡ at = omega arith in
      subst (λ k. slice_get es k ≡ Some e) turn here

  pub past-at : (es : List (Entry P)) (at place : ℕ) → place ≡ min at (length es) + 1 → last_of es place ≡ None → length es ≤ at
  past-at es at place is found = omega (arith, past-none (min at (length es)) es (sym (item-on es at place is) ∙ found))

  -- the entries before it
  pub before-at : (es : List (Entry P)) (at place : ℕ) → place ≡ min at (length es) + 1 → take (place - 1) es ≡ take at es
  before-at es at place is =
      let turn : place - 1 ≡ min at (length es) = omega arith in
      ap (λ n. take n es) turn ∙ taken-min at es
