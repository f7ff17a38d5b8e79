-- One side after a `sync`: what each call of it asks, and what it makes.
use Rattle.std.proofs.Common.{◌≡◌, ℕ, ◌^◌, ◌<◌, ◌≤◌, get_or, not, cond, List, [], ◌∷◌, Option, Some, None, length, map, filter, refl, sym, ap, subst, ◌∙◌, arith, inl, inr}
use Rattle.std.specs.List.{All}
use Rattle.std.specs.Option.{is_some}
use Rattle.cell_units.specs.declared.limits.TheConstants.{ENTRY_LIMIT}
use Rattle.cell_units.specs.declared.place.Bias.TheVariants.{Right}
use Rattle.cell_units.specs.declared.place.Shift.{Shift}
use Rattle.cell_units.specs.declared.place.Side.{Side}
use Rattle.cell_units.specs.Lawful.{AreBlockLines}
use Rattle.cell_units.specs.Layers.{Source}
use Rattle.cell_units.specs.Rows.{HaveRows}
use Rattle.cell_units.specs.Text.{IsBoundary}
use Rattle.edit_patch.specs.declared.edit.Edit.{Edit}
use Rattle.edit_patch.specs.Patch.{IsPatch}
use Rattle.mark_tree.specs.declared.mark.Mark.{Mark}
use Rattle.mark_tree.specs.Marks.{IsMarkList, mark_le, move_mark}
use Rattle.mark_tree.proofs.Changing.{all-from_every, every-from_all}
use Rattle.mark_tree.proofs.Sorting.{Every, every-sort, every-weaker}
use Rattle.sum_core.specs.declared.load.NoLoad.{NoLoad}
use Rattle.block_map.specs.Maps.{Kept, moved_kept, placed, stop_of}
use Rattle.block_map.specs.Stops.{Stop}
use Rattle.block_map.specs.inside.RowMoves.{IsKeptStop, MayBeMoved, carried}
use Rattle.block_map.specs.inside.SideMoves.{IsSideFollowed, IsUnmet, LeaveCarried, MayBeRemade, MayFollow, MayStand, bias_of, marks_after, stop_of_mark, stops_of_marks}
use Rattle.block_map.specs.inside.Sides.{ArePaired, BlockMark, IsSide, anchor_of, is_unshown, kept, kept_of, shown_at, unshown_anchors}
use Rattle.block_map.specs.inside.StopLists.{AreRising, StopsFit}
use Rattle.block_map.specs.inside.Without.{IsRising, without}
use Rattle.block_map.proofs.AnewPlaces.{in-order}
use Rattle.block_map.proofs.LeftOut.{nothing-out}
use Rattle.block_map.proofs.MarksAfter.{length-after, order-after}
use Rattle.block_map.proofs.PairedSides.{mark_of_kept, paired-length}
use Rattle.block_map.proofs.SideStops.{all-carried, all-kept, heights-after, heights-kept, marks-kept, shown-row, stops-fit, stops-rise}
use Rattle.block_map.proofs.StopLoops.{got}
use Rattle.block_map.proofs.StopSizes.{fit-left, rise-left}

-- a mark goes to the right, and its lines are lawful
IsSound : BlockMark → Type 0
IsSound m = (m.bias ≡ Right) × AreBlockLines m.load

sound-of : (ms : List BlockMark) (ss : List Stop) → ArePaired ms ss → Every IsSound ms
unfolding IsSound
sound-of [] [] p = tt
sound-of [] (s ∷ ss) p = tt
sound-of (m ∷ ms) [] p = absurd p
sound-of (m ∷ ms) (s ∷ ss) p = ((p.0.bias, p.0.lawful), sound-of ms ss p.1)

sound-after : (shift : Option Shift) (ms : List BlockMark) → Every IsSound ms → Every IsSound (marks_after shift ms)
unfolding IsSound
sound-after None ms a = a
sound-after (Some s) ms a = every-sort mark_le IsSound (map (move_mark s) ms) (each ms a) where
  each : (ms : List BlockMark) → Every IsSound ms → Every IsSound (map (move_mark s) ms)
  each [] a = tt
  each (m ∷ ms) a = ((a.0.0, a.0.1), each ms a.1)

every-map : {X Y : Type 0} (f : X → Y) (P : Y → Type 0) (xs : List X) → Every (λ x. P (f x)) xs → Every P (map f xs)
every-map f P [] a = tt
every-map f P (x ∷ xs) a = (a.0, every-map f P xs a.1)

-- where no stop is made anew, no mark is met
pub all-unmet : (shift : Option Shift) (es : List Edit) (old : List (List (List ℕ))) (side : Side) (ms : List BlockMark) (ss : List Stop) → length ss ≡ length ms
    → LeaveCarried shift es old side ms ss [] → All (IsUnmet shift) ms
all-unmet shift es old side ms ss same leave k d lt =
    let s : Stop = record { row = 0; lines = [] } in
    elim (leave k (get_or ms k d) (get_or ss k s) (got ms k d lt) (got ss k s (omega (arith, lt, same)))) [
      | inl at ↦ absurd (omega (arith, at.1))
      | inr may ↦ may.unmet
    ]

-- the marks of moved blocks are where these are
pub anchors-after : (source : Source) (shift : Option Shift) (ms : List BlockMark) (ss : List Stop) → ArePaired ms ss → All (λ k. IsBoundary source.text k.offset) (moved_kept shift (kept_of ms ss))
    → All (λ m. IsBoundary source.text m.offset) (marks_after shift ms)
anchors-after source shift ms ss p all =
    let ks = moved_kept shift (kept_of ms ss) in
    subst (λ (l : List BlockMark). All (λ m. IsBoundary source.text m.offset) l) (marks-kept shift ms ss p)
    (all-from_every (λ (m : BlockMark). IsBoundary source.text m.offset) (map mark_of_kept ks)
    (every-map mark_of_kept (λ (m : BlockMark). IsBoundary source.text m.offset) ks (every-from_all (λ (k : Kept). IsBoundary source.text k.offset) ks all)))

pub offsets-after : (source : Source) (ms : List BlockMark) → length source.text < 2 ^ 32 → All (λ m. IsBoundary source.text m.offset) ms → All (λ m. m.offset < 2 ^ 32) ms
offsets-after source ms short all = λ k d lt. let b = all k d lt in omega (arith, b.0, short)

module _ (source : Source) (lines : List (List (List ℕ))) (side : Side) where
  -- each mark with its stop
  pairs-all : (ms : List BlockMark) → Every IsSound ms → ArePaired ms (stops_of_marks source lines side ms)
  unfolding IsSound
  pairs-all [] a = tt
  pairs-all (m ∷ ms) a = (record { lines = inl refl; bias = a.0.0; lawful = a.0.1 }, pairs-all ms a.1)

  shown-all : (m : BlockMark) → IsSound m → shown_at (stop_of_mark source lines side m) ≡ Some (stop_of_mark source lines side m).row
  unfolding IsSound
  shown-all m a = shown-row (stop_of_mark source lines side m) a.1.some

  none-blank : (ms : List BlockMark) → Every IsSound ms → [] ≡ unshown_anchors (kept_of ms (stops_of_marks source lines side ms))
  none-blank [] a = refl
  none-blank (m ∷ ms) a =
      let t = stop_of_mark source lines side m in
      let rest = stops_of_marks source lines side ms in
      none-blank ms a.1
      ∙ sym (ap (λ (o : Option ℕ). map anchor_of (cond (not (is_some o)) (kept m t ∷ filter is_unshown (kept_of ms rest)) (filter is_unshown (kept_of ms rest)))) (shown-all m a.0))

  -- each block is seen at its row
  kept-all : (ks : List Kept) → Every IsSound (map mark_of_kept ks) → kept_of (map mark_of_kept ks) (stops_of_marks source lines side (map mark_of_kept ks)) ≡ map (placed source lines side) ks
  kept-all [] a = refl
  kept-all (k ∷ ks) a =
      let m = mark_of_kept k in
      (λ i. record { offset = k.offset; id = k.id; lines = k.lines; row = shown-all m a.0 i } ∷ kept-all ks a.1 i)

  stops-all : (ks : List Kept) → stops_of_marks source lines side (map mark_of_kept ks) ≡ map (stop_of source lines side) ks
  stops-all [] = refl
  stops-all (k ∷ ks) = ap (λ (l : List Stop). stop_of source lines side k ∷ l) (stops-all ks)

-- what follows edits that are the same, of blocks that are seen so
pub follows-as : (source : Source) (shift : Option Shift) (es fs : List Edit) (old new : List (List (List ℕ))) (side : Side) (ks ls : List Kept) → es ≡ fs → ks ≡ ls
    → IsSideFollowed source shift fs old new side ls → IsSideFollowed source shift es old new side ks
follows-as source shift es fs old new side ks ls e f followed =
    subst (λ (l : List Edit). IsSideFollowed source shift l old new side ks) (sym e)
    (subst (λ (l : List Kept). IsSideFollowed source shift fs old new side l) (sym f) followed)

module _ (source : Source) (shift : Option Shift) (es : List Edit) (old new : List (List (List ℕ))) (side : Side) (ms : List BlockMark) (ss : List Stop) (anchors : List (Mark NoLoad))
    (is-side : IsSide ms ss anchors) (before : IsMarkList ms) (followed : IsSideFollowed source shift es old new side (kept_of ms ss)) where
  pub all-rise : AreRising 0 (stops_of_marks source new side (marks_after shift ms))
  all-rise =
      stops-rise source new side (marks_after shift ms) (order-after shift ms before)
      (every-weaker (λ (m : BlockMark). IsBoundary source.text m.offset) (λ (m : BlockMark). m.offset ≤ length source.text) (λ m b. b.0) (marks_after shift ms)
      (every-from_all (λ (m : BlockMark). IsBoundary source.text m.offset) (marks_after shift ms) (anchors-after source shift ms ss is-side.each followed.anchors)))

  pub all-fit : StopsFit (stops_of_marks source new side (marks_after shift ms))
  all-fit =
      stops-fit source new side (marks_after shift ms) (omega (arith, heights-after shift ms, heights-kept ms ss is-side.each, followed.sizes))
      (omega (arith, length-after shift ms, is-side.few, limit)) where
        limit : ENTRY_LIMIT < 2 ^ 32
        limit = omega arith

  pub all-stand : MayStand source new side (marks_after shift ms)
  all-stand = record { anchors = anchors-after source shift ms ss is-side.each followed.anchors; equal = followed.equal; order = all-rise; fits = all-fit }

  pub side-after : IsSide (marks_after shift ms) (stops_of_marks source new side (marks_after shift ms)) []
  side-after =
      let sound = sound-after shift ms (sound-of ms ss is-side.each) in
      record {
        each = pairs-all source new side (marks_after shift ms) sound;
        fits = all-fit;
        few = omega (arith, length-after shift ms, is-side.few);
        anchors = none-blank source new side (marks_after shift ms) sound;
      }

  pub kept-after : kept_of (marks_after shift ms) (stops_of_marks source new side (marks_after shift ms)) ≡ map (placed source new side) (moved_kept shift (kept_of ms ss))
  kept-after =
      let ks = moved_kept shift (kept_of ms ss) in
      let same = marks-kept shift ms ss is-side.each in
      let sound = sound-after shift ms (sound-of ms ss is-side.each) in
      ap (λ (l : List BlockMark). kept_of l (stops_of_marks source new side l)) (sym same)
      ∙ kept-all source new side ks (subst (Every IsSound) (sym same) sound)

  pub stops-after : stops_of_marks source new side (marks_after shift ms) ≡ map (stop_of source new side) (moved_kept shift (kept_of ms ss))
  stops-after = ap (stops_of_marks source new side) (sym (marks-kept shift ms ss is-side.each)) ∙ stops-all source new side (moved_kept shift (kept_of ms ss))

  module _ (p : IsPatch es) (have : HaveRows old) (places : List ℕ) (rising : IsRising 0 places) (leave : LeaveCarried shift es old side ms ss places) where
    pub left-kept : All (IsKeptStop (bias_of side) es) (without places 0 ss)
    left-kept = all-kept source shift es old new side ms ss p have is-side.each (in-order ms before) followed places rising leave

    pub left-carried : map (carried (bias_of side) es) (without places 0 ss) ≡ without places 0 (stops_of_marks source new side (marks_after shift ms))
    left-carried = all-carried source shift es old new side ms ss p have is-side.each (in-order ms before) followed places rising leave

    pub left-rise : AreRising 0 (map (carried (bias_of side) es) (without places 0 ss))
    left-rise = subst (AreRising 0) (sym left-carried) (rise-left 0 places 0 (stops_of_marks source new side (marks_after shift ms)) all-rise)

    pub left-fit : StopsFit (map (carried (bias_of side) es) (without places 0 ss))
    left-fit = subst StopsFit (sym left-carried) (fit-left places (stops_of_marks source new side (marks_after shift ms)) all-rise all-fit)

    pub left-moved : AreRising 0 ss → MayBeMoved (bias_of side) es (without places 0 ss)
    left-moved rise = record { kept = left-kept; fit = fit-left places ss rise is-side.fits; rising = left-rise; fits = left-fit }

    pub may-remake : AreRising 0 ss → All (λ a. a < length ss) places → MayBeRemade source shift es new side places ms ss
    may-remake rise within = record {
      rising = rising;
      within = within;
      paired = paired-length ms ss is-side.each;
      fit = is-side.fits;
      moved = left-moved rise;
      others = left-carried;
      stand = all-stand;
      is_side = side-after;
    }

  -- where no stop is made anew
  module _ (p : IsPatch es) (have : HaveRows old) (leave : LeaveCarried shift es old side ms ss []) where
    pub carried-stops : map (carried (bias_of side) es) ss ≡ stops_of_marks source new side (marks_after shift ms)
    carried-stops =
        ap (map (carried (bias_of side) es)) (sym (nothing-out 0 ss))
        ∙ left-carried p have [] tt leave
        ∙ nothing-out 0 (stops_of_marks source new side (marks_after shift ms))

    pub carried-side : IsSide (marks_after shift ms) (map (carried (bias_of side) es) ss) []
    carried-side = subst (λ (l : List Stop). IsSide (marks_after shift ms) l []) (sym carried-stops) side-after

    pub carried-kept : kept_of (marks_after shift ms) (map (carried (bias_of side) es) ss) ≡ map (placed source new side) (moved_kept shift (kept_of ms ss))
    carried-kept = ap (kept_of (marks_after shift ms)) carried-stops ∙ kept-after

    pub carried-moved : AreRising 0 ss → MayBeMoved (bias_of side) es ss
    carried-moved rise = subst (MayBeMoved (bias_of side) es) (nothing-out 0 ss) (left-moved p have [] tt leave rise)

    pub may-follow : length source.text < 2 ^ 32 → MayFollow shift ms
    may-follow short = record {
      unmet = all-unmet shift es old side ms ss (paired-length ms ss is-side.each) leave;
      fits = offsets-after source (marks_after shift ms) short (anchors-after source shift ms ss is-side.each followed.anchors);
    }
