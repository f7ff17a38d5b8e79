-- The places of stops that are made anew are those of the three kinds.
use Rattle.std.proofs.Common.{◌≡◌, ℕ, ◌<◌, List, [], Some, length, get_or, sym, ap, ◌∙◌, arith}
use Rattle.std.specs.List.{position_or_len, slice_get}
use Rattle.cell_units.specs.declared.place.Bias.TheVariants.{Left, Right}
use Rattle.mark_tree.specs.declared.mark.Mark.{Mark}
use Rattle.mark_tree.specs.Marks.{IsMarkList, is_not_before, mark_le}
use Rattle.mark_tree.proofs.Sorting.{AreFresh, IsSorted, fresh-from_count, sorted-from_same}
use Rattle.sum_core.specs.declared.load.NoLoad.{NoLoad}
use Rattle.block_map.specs.Stops.{Stop}
use Rattle.block_map.specs.inside.Anew.{IsAnchoredAt, IsBlankAt}
use Rattle.block_map.specs.inside.Sides.{BlockMark, IsSide}
use Rattle.block_map.proofs.Gathered.{anchor-mark, blank-anchor, place-at}
use Rattle.block_map.proofs.PairedSides.{mark-total, mark-trans, paired-length}
use Rattle.block_map.proofs.SideStops.{pair-at}
use Rattle.block_map.proofs.StopLoops.{get-lt, got}

pub in-order : (ms : List BlockMark) → IsMarkList ms → IsSorted mark_le ms
in-order ms l = sorted-from_same mark_le mark-total mark-trans ms l.sorted

pub apart : (ms : List BlockMark) → IsMarkList ms → AreFresh (λ (m : BlockMark). m.id) ms
apart ms l = fresh-from_count (λ (m : BlockMark). m.id) ms l.distinct

module _ (ms : List BlockMark) (ss : List Stop) (anchors : List (Mark NoLoad)) (l : IsMarkList ms) (side : IsSide ms ss anchors) where
  -- an anchor is that of one of the marks
  pub anchored-within : (k : ℕ) → IsAnchoredAt anchors ms k → k < length ms
  anchored-within k at =
      let a = at.1 in
      let found = anchor-mark ms ss at.0 a (sym (ap (λ (l : List (Mark NoLoad)). slice_get l at.0) side.anchors) ∙ at.2) in
      let o = found.1 in
      let right = (pair-at ms ss found.0 o.mark o.stop side.each o.mark_there o.stop_there).bias in
      let place : position_or_len (is_not_before o.mark.offset Right o.mark.id) ms ≡ found.0 = place-at ms found.0 o.mark (in-order ms l) (apart ms l) o.mark_there right in
      let same : k ≡ found.0 = at.3 ∙ (λ i. position_or_len (is_not_before (sym o.offset i) Right (sym o.id i)) ms) ∙ place in
      omega (arith, same, get-lt ms found.0 o.mark o.mark_there)

  -- a block of which nothing is shown has an anchor
  pub blank-anchored : (k : ℕ) → IsBlankAt ss k → IsAnchoredAt anchors ms k
  blank-anchored k at =
      let d : BlockMark = record { offset = 0; bias = Left; id = 0; load = [] } in
      let s = at.0 in
      let lt : k < length ms = omega (arith, get-lt ss k s at.1, paired-length ms ss side.each) in
      let m : BlockMark = get_or ms k d in
      let there : slice_get ms k ≡ Some m = got ms k d lt in
      let found = blank-anchor ms ss k m s there at.1 at.2 in
      let right = (pair-at ms ss k m s side.each there at.1).bias in (
        found.0,
        record { offset = m.offset; bias = Right; id = m.id; load = record {} },
        ap (λ (l : List (Mark NoLoad)). slice_get l found.0) side.anchors ∙ found.1,
        sym (place-at ms k m (in-order ms l) (apart ms l) there right),
      )
