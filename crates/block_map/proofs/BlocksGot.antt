-- The block at a place of its side, by the mark at that place.
use Rattle.std.proofs.Common.{◌≡◌, ℕ, ◌<◌, ◌^◌, List, [], length, map, get_or, Some, false, sym, ap, subst, ◌∙◌, arith}
use Rattle.std.specs.Prelude.{option_map}
use Rattle.std.specs.List.{slice_get}
use Rattle.std.proofs.lemmas.Option.{get_or_from_slice_get, slice_get-get_or, slice_get-map, slice_get_within}
use Rattle.cell_units.specs.declared.place.Shift.{Shift}
use Rattle.cell_units.specs.Anchor.{move}
use Rattle.mark_tree.specs.declared.mark.Mark.{Mark}
use Rattle.mark_tree.specs.Marks.{IsMarkList, is_met, move_mark}
use Rattle.sum_core.specs.declared.load.NoLoad.{NoLoad}
use Rattle.block_map.specs.Maps.{IsBlockAt, Kept, fresh}
use Rattle.block_map.specs.Stops.{Stop}
use Rattle.block_map.specs.inside.SideMoves.{MayFollow, marks_after}
use Rattle.block_map.specs.inside.Sides.{BlockMark, IsSide, kept_of}
use Rattle.block_map.proofs.AlteredSides.{marks-count}
use Rattle.block_map.proofs.AnewPlaces.{in-order}
use Rattle.block_map.proofs.MarksAfter.{moved-offsets}
use Rattle.block_map.proofs.MovedMarks.{moved-at}
use Rattle.block_map.proofs.PairedSides.{mark_of_kept, marks-of}

-- where a mark goes is a u32
pub fits-at : (s : Shift) (ms : List BlockMark) (k : ℕ) (m : BlockMark) → MayFollow (Some s) ms → slice_get ms k ≡ Some m → move m.offset m.bias s.start s.end s.count < 2 ^ 32
fits-at s ms k m f e =
    let moved : List BlockMark = map (move_mark s) ms in
    let there : slice_get moved k ≡ Some (move_mark s m) = slice_get-map (move_mark s) ms k ∙ ap (option_map (move_mark s)) e in
    subst (λ (n : BlockMark). n.offset < 2 ^ 32) (get_or_from_slice_get moved k (move_mark s m) (move_mark s m) there)
    (moved-offsets s ms f.fits k (move_mark s m) (slice_get_within moved k (move_mark s m) there))

-- it is at the same place then
pub after-at : (s : Shift) (ms : List BlockMark) (k : ℕ) (m : BlockMark) → IsMarkList ms → MayFollow (Some s) ms → slice_get ms k ≡ Some m → slice_get (marks_after (Some s) ms) k ≡ Some (move_mark s m)
after-at s ms k m list f e =
    moved-at s ms k m (in-order ms list) e
    (subst (λ (n : BlockMark). is_met s n ≡ false) (get_or_from_slice_get ms k m m e) (f.unmet k m (slice_get_within ms k m e)))

some-same : (m n : BlockMark) → Some m ≡ Some n → m ≡ n
some-same m n e = cc

pub block-at : (ms : List BlockMark) (ss : List Stop) (anchors : List (Mark NoLoad)) (ks : List Kept) → IsSide ms ss anchors → kept_of ms ss ≡ ks
    → (at : ℕ) (m : BlockMark) → slice_get ms at ≡ Some m → IsBlockAt ks at m.offset m.id m.load
block-at ms ss anchors ks side seen at m e =
    let lt : at < length ks = omega (arith, slice_get_within ms at m e, marks-count ms ss anchors ks side seen) in
    let k : Kept = get_or ks at (fresh 0 0 []) in
    let there : slice_get ks at ≡ Some k = slice_get-get_or ks at (fresh 0 0 []) lt in
    let same : mark_of_kept k ≡ m = some-same (mark_of_kept k) m
    (sym (slice_get-map mark_of_kept ks at ∙ ap (option_map mark_of_kept) there)
    ∙ ap (λ (l : List BlockMark). slice_get l at) (ap (map mark_of_kept) (sym seen) ∙ marks-of ms ss side.each) ∙ e) in
    (k, there, ap (λ (n : BlockMark). n.offset) same, ap (λ (n : BlockMark). n.id) same, ap (λ (n : BlockMark). n.load) same)
