-- Places that have all blocks that are shown anew are no fewer than those that a `sync` gathers.
use Rattle.std.proofs.Common.{◌≡◌, ℕ, ◌+◌, ◌<◌, ◌≤◌, ◌==◌, ◌&&◌, not, nat_le, Bool, true, false, cond, zero, suc, List, [], ◌∷◌, Option, Some, None, length, filter, get_or, refl, sym, ap, subst, ◌∙◌, arith, inl, inr, ◌⊎◌}
use Rattle.std.specs.List.{All, Contains, position_or_len, slice_get}
use Rattle.std.specs.Option.{is_some}
use Rattle.std.proofs.lemmas.Bool.Decides.{nat_tests}
use Rattle.std.proofs.lemmas.List.{length-map}
use Rattle.std.proofs.lemmas.List.Sums.{count_by-le-length, length-filter}
use Rattle.std.proofs.lemmas.Option.{none-some, same_Some}
use Rattle.cell_units.specs.declared.place.Bias.TheVariants.{Left, Right}
use Rattle.cell_units.specs.declared.place.Shift.{Shift}
use Rattle.cell_units.specs.declared.place.Side.{Side}
use Rattle.edit_patch.specs.declared.edit.Edit.{Edit}
use Rattle.mark_tree.specs.declared.mark.Mark.{Mark}
use Rattle.mark_tree.specs.Marks.{IsMarkList, is_met, is_not_before}
use Rattle.mark_tree.proofs.Sorting.{Member, contains-from_member, member-from_contains}
use Rattle.sum_core.specs.declared.load.NoLoad.{NoLoad}
use Rattle.block_map.specs.Carried.{HaveAnew, IsCarried, IsPassed}
use Rattle.block_map.specs.Maps.{row_at_line}
use Rattle.block_map.specs.Stops.{Stop}
use Rattle.block_map.specs.inside.Anew.{IsAnewAt, IsMetAt}
use Rattle.block_map.specs.inside.SideMoves.{met_count}
use Rattle.block_map.specs.inside.Sides.{BlockMark, IsSide, anchor_of, is_unshown, kept, kept_of, shown_at}
use Rattle.block_map.specs.inside.Without.{IsRising}
use Rattle.block_map.proofs.AnewPlaces.{apart, in-order}
use Rattle.block_map.proofs.CountedPlaces.{count-within, rising-within}
use Rattle.block_map.proofs.Gathered.{anchor-mark, place-at}
use Rattle.block_map.proofs.PairedSides.{length-kept, paired-length}
use Rattle.block_map.proofs.SideStops.{pair-at}
use Rattle.block_map.proofs.StopLoops.{get-lt, got}

get-kept : (ms : List BlockMark) (ss : List Stop) (k : ℕ) (m : BlockMark) (s : Stop) → slice_get ms k ≡ Some m → slice_get ss k ≡ Some s → slice_get (kept_of ms ss) k ≡ Some (kept m s)
get-kept [] ss zero m s e f = absurd (cc)
get-kept [] ss (suc k) m s e f = absurd (cc)
get-kept (n ∷ ms) [] zero m s e f = absurd (cc)
get-kept (n ∷ ms) [] (suc k) m s e f = absurd (cc)
get-kept (n ∷ ms) (t ∷ ss) zero m s e f =
    let x : n ≡ m = cc in
    let y : t ≡ s = cc in
    λ i. Some (kept (x i) (y i))
get-kept (n ∷ ms) (t ∷ ss) (suc k) m s e f = get-kept ms ss k m s e f

at-row : (s : Stop) (row : ℕ) → shown_at s ≡ Some row → s.row ≡ row
at-row s row e = go (length s.lines == 0) e where
  go : (b : Bool) → cond b None (Some s.row) ≡ Some row → s.row ≡ row
  go true e = absurd (none-some row e)
  go false e = same_Some s.row row e

not-shown : (o : Option ℕ) (row : ℕ) → not (is_some o) ≡ true → o ≡ Some row → ⊥
not-shown None row u e = absurd (none-some row e)
not-shown (Some r) row u e = absurd (cc)

not-passed : (a b o : ℕ) → (nat_le a o && nat_le o b) ≡ true → (o < a) ⊎ (b < o) → ⊥
not-passed a b o e p = elim p [
  | inl lt ↦ omega (arith, lt, (parts a b o e).0)
  | inr lt ↦ omega (arith, lt, (parts a b o e).1)
] where
  parts : (a b o : ℕ) → (nat_le a o && nat_le o b) ≡ true → (a ≤ o) × (o ≤ b)
  parts a b o e = grind (arith, nat_tests)

module _ (shift : Option Shift) (es : List Edit) (lines : List (List (List ℕ))) (side : Side) (ms : List BlockMark) (ss : List Stop) (anchors : List (Mark NoLoad)) (is-side : IsSide ms ss anchors) (listed : IsMarkList ms) where
  not-carried : (k : ℕ) (m : BlockMark) (s : Stop) → slice_get ms k ≡ Some m → slice_get ss k ≡ Some s → IsAnewAt shift es lines side ms ss anchors k → IsCarried shift es lines side (kept m s) → ⊥
  not-carried k m s e f (inl at) c = met shift at c.passed where
    met : (shift : Option Shift) → IsMetAt shift ms k → IsPassed shift (kept m s) → ⊥
    met None at p = at
    met (Some sh) at p =
        let same : m ≡ at.0 = same_Some m at.0 (sym e ∙ at.1) in
        not-passed sh.start sh.end m.offset (ap (is_met sh) same ∙ at.2) p
  not-carried k m s e f (inr (inl at)) c =
      let a = at.1 in
      let found = anchor-mark ms ss at.0 a (sym (ap (λ (l : List (Mark NoLoad)). slice_get l at.0) is-side.anchors) ∙ at.2) in
      let o = found.1 in
      let right = (pair-at ms ss found.0 o.mark o.stop is-side.each o.mark_there o.stop_there).bias in
      let place : position_or_len (is_not_before o.mark.offset Right o.mark.id) ms ≡ found.0 = place-at ms found.0 o.mark (in-order ms listed) (apart ms listed) o.mark_there right in
      let same : k ≡ found.0 = at.3 ∙ (λ i. position_or_len (is_not_before (sym o.offset i) Right (sym o.id i)) ms) ∙ place in
      let stop : s ≡ o.stop = same_Some s o.stop (sym f ∙ ap (slice_get ss) same ∙ o.stop_there) in
      not-shown (shown_at s) (row_at_line lines side c.line) (ap (λ (o : Option ℕ). not (is_some o)) (ap shown_at stop) ∙ o.unshown) c.stood
  not-carried k m s e f (inr (inr t)) c = t s c.line f c.within (at-row s (row_at_line lines side c.line) c.stood) c.kept

  module _ (ps : List ℕ) (have : HaveAnew shift es lines side (kept_of ms ss) ps) where
    anew-had : (k : ℕ) → k < length ss → IsAnewAt shift es lines side ms ss anchors k → Contains ps k
    anew-had k lt at =
        let m : BlockMark = get_or ms k (record { offset = 0; bias = Left; id = 0; load = [] }) in
        let s : Stop = get_or ss k (record { row = 0; lines = [] }) in
        let e : slice_get ms k ≡ Some m = got ms k (record { offset = 0; bias = Left; id = 0; load = [] }) (omega (arith, lt, paired-length ms ss is-side.each)) in
        let f : slice_get ss k ≡ Some s = got ss k (record { row = 0; lines = [] }) lt in
        have k (kept m s) (get-kept ms ss k m s e f) (not-carried k m s e f at)

    pub places-within : (places : List ℕ) → IsRising 0 places → All (λ a. a < length ss) places → ((k : ℕ) → Contains places k → IsAnewAt shift es lines side ms ss anchors k) → length places ≤ length ps
    places-within places rising within only =
        rising-within 0 places ps rising (λ k i. member-from_contains k ps (anew-had k (below k (contains-from_member k places i)) (only k (contains-from_member k places i)))) where
          below : (k : ℕ) → Contains places k → k < length ss
          below k c = subst (λ (n : ℕ). n < length ss) c.2 (within c.0 k c.1)

    pub met-within : met_count shift ms ≤ length ps
    met-within = go shift refl where
      go : (o : Option Shift) → o ≡ shift → met_count o ms ≤ length ps
      go None e = omega arith
      go (Some sh) e =
          count-within (is_met sh) ms 0 ps (λ k m there t.
          let z : 0 + k ≡ k = omega arith in
          subst (λ (n : ℕ). Member n ps) (sym z)
          (member-from_contains k ps (anew-had k (omega (arith, get-lt ms k m there, paired-length ms ss is-side.each)) (inl (subst (λ (o : Option Shift). IsMetAt o ms k) e (m, there, t))))))

    pub anchors-within : length anchors ≤ length ps
    anchors-within =
        omega (
          arith,
          ap length is-side.anchors,
          length-map (filter is_unshown (kept_of ms ss)) anchor_of,
          length-filter is_unshown (kept_of ms ss),
          count-within is_unshown (kept_of ms ss) 0 ps (λ k b there u.
              let z : 0 + k ≡ k = omega arith in
              subst (λ (n : ℕ). Member n ps) (sym z) (member-from_contains k ps (have k b there (λ c. not-shown b.row (row_at_line lines side c.line) u c.stood)))),
        )

pub anchors-few : (ms : List BlockMark) (ss : List Stop) (anchors : List (Mark NoLoad)) → IsSide ms ss anchors → length anchors ≤ length ms
anchors-few ms ss anchors is-side =
    omega (
      arith,
      ap length is-side.anchors,
      length-map (filter is_unshown (kept_of ms ss)) anchor_of,
      length-filter is_unshown (kept_of ms ss),
      count_by-le-length is_unshown (kept_of ms ss),
      length-kept ms ss is-side.each,
    )
