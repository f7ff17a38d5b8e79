-- The steps of a `sync` of one side.
use Rattle.std.proofs.Common.{◌≡◌, ℕ, ◌+◌, ◌*◌, ◌^◌, ◌<◌, ◌≤◌, List, Option, length, sym, ap, subst, arith}
use Rattle.std.specs.List.{All, Contains}
use Rattle.cell_units.specs.declared.place.Shift.{Shift}
use Rattle.cell_units.specs.declared.place.Side.{Side}
use Rattle.edit_patch.specs.declared.edit.Edit.{Edit}
use Rattle.mark_tree.specs.declared.mark.Mark.{Mark}
use Rattle.mark_tree.specs.Bounds.{moving}
use Rattle.mark_tree.specs.Marks.{IsMarkList}
use Rattle.sum_core.specs.declared.load.NoLoad.{NoLoad}
use Rattle.sum_tree.specs.Bounds.{TakesAtMost}
use Rattle.block_map.specs.Bounds.{gathering, putting, remaking}
use Rattle.block_map.specs.Carried.{HaveAnew, SyncsSideAtMost}
use Rattle.block_map.specs.Maps.{Kept}
use Rattle.block_map.specs.Stops.{Stop}
use Rattle.block_map.specs.inside.Anew.{IsAnewAt}
use Rattle.block_map.specs.inside.SideMoves.{met_count}
use Rattle.block_map.specs.inside.Sides.{BlockMark, IsSide, kept_of}
use Rattle.block_map.specs.inside.Without.{IsRising}
use Rattle.block_map.proofs.PairedSides.{length-kept, paired-length}
use Rattle.block_map.proofs.ShownAnew.{anchors-within, met-within, places-within}
use Rattle.block_map.proofs.StepSums.{side-carried, side-gathered, side-remade, side-settled}

module _ (shift : Option Shift) (es fs : List Edit) (old : List (List (List ℕ))) (side : Side) (ms : List BlockMark) (ss : List Stop) (anchors : List (Mark NoLoad)) (ks : List Kept)
    (is-side : IsSide ms ss anchors) (seen : kept_of ms ss ≡ ks) (a b : ℕ) (first : TakesAtMost (moving 0) (length ms) a b) where
  few-marks : (h : ℕ) → length ks < 2 * 6 ^ (h + 1) → length ms < 2 * 6 ^ (h + 1)
  few-marks h few = omega (arith, few, ap length seen, length-kept ms ss is-side.each)

  pub settled-within : SyncsSideAtMost shift fs old side ks a b
  settled-within ps have h few = side-settled h (length ps) (length fs) a b (first h (few-marks h few))

  module _ (listed : IsMarkList ms) (same : es ≡ fs) (c : ℕ) (second : TakesAtMost (gathering (length anchors) (length es)) (length ms) b c) where
    had : (ps : List ℕ) → HaveAnew shift fs old side ks ps → HaveAnew shift es old side (kept_of ms ss) ps
    had ps have =
        subst (λ (l : List Edit). HaveAnew shift l old side (kept_of ms ss) ps) (sym same)
        (subst (λ (l : List Kept). HaveAnew shift fs old side l ps) (sym seen) have)

    pub gathered-within : SyncsSideAtMost shift fs old side ks a c
    gathered-within ps have h few =
        let few' = few-marks h few in
        let n = anchors-within shift es old side ms ss anchors is-side listed ps (had ps have) in
        subst (λ (l : List Edit). c ≤ a + (546 * length ps + 342 * length l + 342) * (h + 1)) same
        (side-gathered h (length ps) (length anchors) (length es) a b c n (first h few') (second h few'))

    pub carried-within : (d : ℕ) → TakesAtMost (λ h. 2 * length es * putting h) (length ss) c d → SyncsSideAtMost shift fs old side ks a d
    carried-within d third ps have h few =
        let few' = few-marks h few in
        let few-stops : length ss < 2 * 6 ^ (h + 1) = omega (arith, few', paired-length ms ss is-side.each) in
        let n = anchors-within shift es old side ms ss anchors is-side listed ps (had ps have) in
        subst (λ (l : List Edit). d ≤ a + (546 * length ps + 342 * length l + 342) * (h + 1)) same
        (side-carried h (length ps) (length anchors) (length es) a b c d n (first h few') (second h few') (third h few-stops))

    pub remade-within : (places : List ℕ) → IsRising 0 places → All (λ a. a < length ss) places → ((k : ℕ) → Contains places k → IsAnewAt shift es old side ms ss anchors k)
        → (d : ℕ) → TakesAtMost (remaking (met_count shift ms) (length places) (length es)) (length ms) c d → SyncsSideAtMost shift fs old side ks a d
    remade-within places rising within only d third ps have h few =
        let few' = few-marks h few in
        let m = met-within shift es old side ms ss anchors is-side listed ps (had ps have) in
        let n = anchors-within shift es old side ms ss anchors is-side listed ps (had ps have) in
        let p = places-within shift es old side ms ss anchors is-side listed ps (had ps have) places rising within only in
        subst (λ (l : List Edit). d ≤ a + (546 * length ps + 342 * length l + 342) * (h + 1)) same
        (side-remade h (length ps) (met_count shift ms) (length anchors) (length places) (length es) a b c d m n p (first h few') (second h few') (third h few'))
