-- What a replacement leaves of ranges that end before it, start before it, or lie after it.
use Rattle.std.proofs.Common.{◌≡◌, ℕ, ◌+◌, ◌-◌, ◌<◌, ◌≤◌, nat_lt, true, cond, List, [], ◌∷◌, ◌++◌, length, map, refl, sym, ap, ◌∙◌, arith, append_assoc, ◌⊎◌, inl, inr}
use Rattle.std.proofs.lemmas.Bool.Decides.{nat_tests}
use Rattle.cell_units.specs.declared.place.Bias.TheVariants.{Left, Right}
use Rattle.cell_units.specs.declared.place.Shift.{Shift}
use Rattle.mark_tree.specs.declared.entry.Placed.{Placed}
use Rattle.mark_tree.specs.Entries.{end_at, shifted}
use Rattle.mark_tree.specs.RangeViews.{IsRange, moved_start, moved_end, is_left_over, move_extent, left_over, emptied_id, all_left_over, emptied_ids}
use Rattle.mark_tree.proofs.Sorting.{Every}
use Rattle.mark_tree.proofs.Moved.{move-before, move-behind, move-within, length-map}
use Rattle.mark_tree.proofs.Shrunk.{left-cons, gone-cons}

below-test : (m n : ℕ) → m < n → nat_lt m n ≡ true
below-test m n lt = grind (arith, nat_tests)

pub less-or-not : (m n : ℕ) → (m < n) ⊎ (n ≤ m)
less-or-not m n = grind arith

module _ {P : Type 0} where
  pub left-append : (s : Shift) (ps qs : List (Placed P)) → all_left_over s (ps ++ qs) ≡ all_left_over s ps ++ all_left_over s qs
  left-append s [] qs = refl
  left-append s (p ∷ ps) qs =
      left-cons s p (ps ++ qs)
      ∙ ap (λ l. left_over s p ++ l) (left-append s ps qs)
      ∙ sym (append_assoc (left_over s p) (all_left_over s ps) (all_left_over s qs))
      ∙ ap (λ l. l ++ all_left_over s qs) (sym (left-cons s p ps))

  pub gone-append : (s : Shift) (ps qs : List (Placed P)) → emptied_ids s (ps ++ qs) ≡ emptied_ids s ps ++ emptied_ids s qs
  gone-append s [] qs = refl
  gone-append s (p ∷ ps) qs =
      gone-cons s p (ps ++ qs)
      ∙ ap (λ l. emptied_id s p ++ l) (gone-append s ps qs)
      ∙ sym (append_assoc (emptied_id s p) (emptied_ids s ps) (emptied_ids s qs))
      ∙ ap (λ l. l ++ emptied_ids s qs) (sym (gone-cons s p ps))

  -- where something is left of each
  pub left-all : (s : Shift) (ps : List (Placed P)) → Every (λ p. is_left_over s p ≡ true) ps → all_left_over s ps ≡ map (move_extent s) ps
  left-all s [] a = refl
  left-all s (p ∷ ps) a = left-cons s p ps ∙ (λ i. cond (a.0 i) (move_extent s p ∷ []) [] ++ left-all s ps a.1 i)

  pub gone-none : (s : Shift) (ps : List (Placed P)) → Every (λ p. is_left_over s p ≡ true) ps → emptied_ids s ps ≡ []
  gone-none s [] a = refl
  gone-none s (p ∷ ps) a = gone-cons s p ps ∙ (λ i. cond (a.0 i) [] (p.id ∷ []) ++ gone-none s ps a.1 i)

  -- where the ends of one range go
  pub start-before : (s : Shift) (p : Placed P) → p.offset < s.start → moved_start s p ≡ p.offset
  start-before s p lt = move-before p.offset Right s.start s.end s.count lt

  end-short : (s : Shift) (p : Placed P) → end_at p < s.start → moved_end s p ≡ end_at p
  end-short s p lt = move-before (end_at p) Left s.start s.end s.count lt

  pub end-reaching : (s : Shift) (p : Placed P) → s.start ≤ s.end → s.start ≤ end_at p → s.start ≤ moved_end s p
  end-reaching s p order le = elim (less-or-not s.end (end_at p)) [
    | inl lt ↦ omega (arith, move-behind (end_at p) Left s.start s.end s.count order lt)
    | inr le' ↦ (move-within (end_at p) Left s.start s.end s.count le le').0
  ]

  kept-before : (s : Shift) (p : Placed P) → s.start ≤ s.end → IsRange p → p.offset < s.start → is_left_over s p ≡ true
  kept-before s p order range lt =
      let some = range.some in
      let start = start-before s p lt in
      below-test (moved_start s p) (moved_end s p) (elim (less-or-not (end_at p) s.start) [
        | inl short ↦ omega (arith, end-short s p short)
        | inr reaching ↦ omega (arith, end-reaching s p order reaching)
      ])

  pub all-kept-before : (s : Shift) (ps : List (Placed P)) → s.start ≤ s.end → Every IsRange ps → Every (λ p. p.offset < s.start) ps → Every (λ p. is_left_over s p ≡ true) ps
  all-kept-before s [] order a b = tt
  all-kept-before s (p ∷ ps) order a b = (kept-before s p order a.0 b.0, all-kept-before s ps order a.1 b.1)

  -- those that end before stay
  short-same : (s : Shift) (p : Placed P) → end_at p < s.start → move_extent s p ≡ p
  short-same s p lt =
      let start : moved_start s p ≡ p.offset = start-before s p (omega arith) in
      let len : moved_end s p - moved_start s p ≡ p.length = omega (arith, start, end-short s p lt) in
      λ i. record { offset = start i; bias = p.bias; length = len i; id = p.id; load = p.load }

  all-short-same : (s : Shift) (ps : List (Placed P)) → Every (λ p. end_at p < s.start) ps → map (move_extent s) ps ≡ ps
  all-short-same s [] a = refl
  all-short-same s (p ∷ ps) a = λ i. short-same s p a.0 i ∷ all-short-same s ps a.1 i

  pub left-short : (s : Shift) (ps : List (Placed P)) → s.start ≤ s.end → Every IsRange ps → Every (λ p. p.offset < s.start) ps → Every (λ p. end_at p < s.start) ps → all_left_over s ps ≡ ps
  left-short s ps order a b c = left-all s ps (all-kept-before s ps order a b) ∙ all-short-same s ps c

  -- those that start before are as many, at the same offsets
  pub length-before : (s : Shift) (ps : List (Placed P)) → s.start ≤ s.end → Every IsRange ps → Every (λ p. p.offset < s.start) ps → length (all_left_over s ps) ≡ length ps
  length-before s ps order a b = ap length (left-all s ps (all-kept-before s ps order a b)) ∙ length-map (move_extent s) ps

  -- those that lie after it are shifted
  kept-behind : (s : Shift) (p : Placed P) → s.start ≤ s.end → IsRange p → s.end + 1 ≤ p.offset → is_left_over s p ≡ true
  kept-behind s p order range le =
      let some = range.some in
      below-test (moved_start s p) (moved_end s p)
      (omega (arith, move-behind p.offset Right s.start s.end s.count order (omega arith), move-behind (end_at p) Left s.start s.end s.count order (omega arith)))

  pub all-kept-behind : (s : Shift) (ps : List (Placed P)) → s.start ≤ s.end → Every IsRange ps → Every (λ p. s.end + 1 ≤ p.offset) ps → Every (λ p. is_left_over s p ≡ true) ps
  all-kept-behind s [] order a b = tt
  all-kept-behind s (p ∷ ps) order a b = (kept-behind s p order a.0 b.0, all-kept-behind s ps order a.1 b.1)

  behind-shifted : (s : Shift) (p : Placed P) → s.start ≤ s.end → s.end + 1 ≤ p.offset → move_extent s p ≡ shifted s p
  behind-shifted s p order le =
      let start : moved_start s p ≡ p.offset + s.count - (s.end - s.start) = move-behind p.offset Right s.start s.end s.count order (omega arith) in
      let len : moved_end s p - moved_start s p ≡ p.length = omega (arith, start, move-behind (end_at p) Left s.start s.end s.count order (omega arith)) in
      λ i. record { offset = start i; bias = p.bias; length = len i; id = p.id; load = p.load }

  all-behind-shifted : (s : Shift) (ps : List (Placed P)) → s.start ≤ s.end → Every (λ p. s.end + 1 ≤ p.offset) ps → map (move_extent s) ps ≡ map (shifted s) ps
  all-behind-shifted s [] order a = refl
  all-behind-shifted s (p ∷ ps) order a = λ i. behind-shifted s p order a.0 i ∷ all-behind-shifted s ps order a.1 i

  pub left-behind : (s : Shift) (ps : List (Placed P)) → s.start ≤ s.end → Every IsRange ps → Every (λ p. s.end + 1 ≤ p.offset) ps → all_left_over s ps ≡ map (shifted s) ps
  left-behind s ps order a b = left-all s ps (all-kept-behind s ps order a b) ∙ all-behind-shifted s ps order b
