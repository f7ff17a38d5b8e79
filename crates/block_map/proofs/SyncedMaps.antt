-- Both sides after a `sync`, and what is shown then.
use Rattle.std.proofs.Common.{◌≡◌, ℕ, ◌+◌, ◌^◌, ◌<◌, ◌==◌, ◌||◌, Bool, true, false, cond, List, [], ◌∷◌, Option, Some, None, length, map, get_or, refl, sym, ap, ◌∙◌, arith}
use Rattle.std.specs.List.{All}
use Rattle.std.proofs.lemmas.List.{length-map}
use Rattle.std.proofs.lemmas.List.Sums.{sum_by-cons}
use Rattle.std.proofs.lemmas.Option.{same_Some}
use Rattle.cell_units.specs.declared.place.Bias.TheVariants.{Left, Right}
use Rattle.cell_units.specs.declared.place.Shift.{Shift}
use Rattle.cell_units.specs.declared.place.Side.{Side}
use Rattle.cell_units.specs.declared.place.Side.TheVariants.{Above, Below}
use Rattle.cell_units.specs.Lawful.{IsWellFormed}
use Rattle.cell_units.specs.Layers.{Source, shown_lines}
use Rattle.cell_units.specs.Rows.{HaveRows, all_rows}
use Rattle.cell_units.specs.Sorting.{insert_by, sort_by}
use Rattle.cell_units.specs.Text.{IsBoundary, row_end, row_start}
use Rattle.edit_patch.specs.declared.edit.Edit.{Edit}
use Rattle.mark_tree.proofs.Changing.{all-from_every, every-from_all}
use Rattle.mark_tree.proofs.Sorting.{Every, length-sort}
use Rattle.block_map.specs.Between.{rows_by_line}
use Rattle.block_map.specs.Follows.{IsFollowed, block_height}
use Rattle.block_map.specs.Maps.{BlockState, IsShown, Kept, StandWithin, between_of, kept_le, line_of_kept, move_kept, moved, moved_kept, placed, row_of_kept, synced}
use Rattle.block_map.specs.inside.SideMoves.{IsSideFollowed}
use Rattle.block_map.specs.inside.ShownStops.{shown_between}
use Rattle.block_map.specs.inside.TwoSides.{IsState, WasAtLine, is_kept}
use Rattle.block_map.proofs.RowBounds.{end-boundary, start-boundary}
use Rattle.block_map.proofs.BlockRows.{rows-agree}
use Rattle.block_map.proofs.RowsOfBlocks.{line-within}
use Rattle.block_map.proofs.ShownStops.{heights-placed, placed-stops}
use Rattle.block_map.proofs.SortedTests.{any-sort}

-- ---- moved blocks

heights-insert : (k : Kept) (ks : List Kept) → block_height (insert_by kept_le k ks) ≡ length k.lines + block_height ks
heights-insert k [] = omega (arith, sum_by-cons (λ (k : Kept). length k.lines) k [])
heights-insert k (l ∷ ks) = go (kept_le k l) (heights-insert k ks) where
  go : (b : Bool) → block_height (insert_by kept_le k ks) ≡ length k.lines + block_height ks → block_height (cond b (k ∷ l ∷ ks) (l ∷ insert_by kept_le k ks)) ≡ length k.lines + block_height (l ∷ ks)
  go true r = sum_by-cons (λ (k : Kept). length k.lines) k (l ∷ ks)
  go false r = omega (arith, r, sum_by-cons (λ (k : Kept). length k.lines) l (insert_by kept_le k ks), sum_by-cons (λ (k : Kept). length k.lines) l ks)

heights-sort : (s : Shift) (ks : List Kept) → block_height (sort_by kept_le (map (move_kept s) ks)) ≡ block_height ks
heights-sort s [] = refl
heights-sort s (k ∷ ks) = omega (arith, heights-insert (move_kept s k) (sort_by kept_le (map (move_kept s) ks)), heights-sort s ks, sum_by-cons (λ (k : Kept). length k.lines) k ks)

heights-moved : (shift : Option Shift) (ks : List Kept) → block_height (moved_kept shift ks) ≡ block_height ks
heights-moved None ks = refl
heights-moved (Some s) ks = heights-sort s ks

any-moving : (id : ℕ) (s : Shift) (ks : List Kept) → is_kept id (map (move_kept s) ks) ≡ is_kept id ks
any-moving id s [] = refl
any-moving id s (k ∷ ks) = ap (λ (b : Bool). (k.id == id) || b) (any-moving id s ks)

any-moved : (id : ℕ) (shift : Option Shift) (ks : List Kept) → is_kept id (moved_kept shift ks) ≡ is_kept id ks
any-moved id None ks = refl
any-moved id (Some s) ks = any-sort kept_le (λ (k : Kept). k.id == id) (map (move_kept s) ks) ∙ any-moving id s ks

any-placed : (id : ℕ) (source : Source) (lines : List (List (List ℕ))) (side : Side) (ks : List Kept) → is_kept id (map (placed source lines side) ks) ≡ is_kept id ks
any-placed id source lines side [] = refl
any-placed id source lines side (k ∷ ks) = ap (λ (b : Bool). (k.id == id) || b) (any-placed id source lines side ks)

length-moved : (shift : Option Shift) (ks : List Kept) → length (moved_kept shift ks) ≡ length ks
length-moved None ks = refl
length-moved (Some s) ks = length-sort kept_le (map (move_kept s) ks) ∙ length-map ks (move_kept s)

-- ---- blocks at their lines

module _ (source : Source) (w : IsWellFormed source) (lines : List (List (List ℕ))) (equal : length (shown_lines source) ≡ length lines) where
  line-lt : (side : Side) (k : Kept) → IsBoundary source.text k.offset → line_of_kept source side k < length lines
  line-lt Above k b = omega (arith, equal, line-within source w (row_start source.text k.offset) Left (start-boundary source.text k.offset w.text.0 b.0).0)
  line-lt Below k b = omega (arith, equal, line-within source w (row_end source.text k.offset) Right (end-boundary source.text k.offset w.text.0 b.0).0)

  pub stand-within : (side : Side) (ks : List Kept) → All (λ k. IsBoundary source.text k.offset) ks → StandWithin source lines side ks
  stand-within side ks all = λ n d lt. line-lt side (get_or ks n d) (all n d lt)

  was-at : (side : Side) (ks : List Kept) → Every (λ (k : Kept). IsBoundary source.text k.offset) ks → Every (WasAtLine lines side) (map (placed source lines side) ks)
  was-at side [] a = tt
  was-at side (k ∷ ks) a =
      ((λ row e. (line_of_kept source side k, line-lt side k a.0, sym (same_Some (row_of_kept source lines side k) row e))), was-at side ks a.1)

  pub placed-at : (side : Side) (ks : List Kept) → All (λ k. IsBoundary source.text k.offset) ks → All (WasAtLine lines side) (map (placed source lines side) ks)
  placed-at side ks all = all-from_every (WasAtLine lines side) (map (placed source lines side) ks) (was-at side ks (every-from_all (λ (k : Kept). IsBoundary source.text k.offset) ks all))

module _ (source : Source) (w : IsWellFormed source) (shift : Option Shift) (es : List Edit) (lines : List (List (List ℕ))) (s : BlockState) (followed : IsFollowed source shift es lines s) where
  pub sizes-after : length (all_rows lines) + (block_height (map (placed source lines Above) (moved_kept shift s.above)) + block_height (map (placed source lines Below) (moved_kept shift s.below))) < 2 ^ 32
  sizes-after =
      omega (
        arith,
        heights-placed source lines Above (moved_kept shift s.above),
        heights-placed source lines Below (moved_kept shift s.below),
        heights-moved shift s.above,
        heights-moved shift s.below,
        followed.sizes,
      )

  pub between-after : shown_between (synced source shift lines s) ≡ between_of source lines (moved shift s)
  between-after = λ i. record {
    lines = lines;
    above = placed-stops source lines Above (moved_kept shift s.above) i;
    below = placed-stops source lines Below (moved_kept shift s.below) i;
  }

  pub is-shown : HaveRows lines → IsShown source shift lines s (shown_between (synced source shift lines s))
  is-shown have = record {
    stops = between-after;
    rows = ap rows_by_line between-after
        ∙ rows-agree source (moved shift s) lines have
        (stand-within source w lines followed.equal Above (moved_kept shift s.above) followed.anchors_above)
        (stand-within source w lines followed.equal Below (moved_kept shift s.below) followed.anchors_below);
  }

  module _ (state : IsState s) where
    pub above-followed : IsSideFollowed source shift es s.lines lines Above s.above
    above-followed = record { edits = followed.edits; equal = followed.equal; anchors = followed.anchors_above; follows = followed.above; stood = state.above; sizes = omega (arith, followed.sizes) }

    pub below-followed : IsSideFollowed source shift es s.lines lines Below s.below
    below-followed = record { edits = followed.edits; equal = followed.equal; anchors = followed.anchors_below; follows = followed.below; stood = state.below; sizes = omega (arith, followed.sizes) }

    pub state-after : IsState (synced source shift lines s)
    state-after = record {
      distinct = λ id e.
          any-placed id source lines Below (moved_kept shift s.below)
          ∙ any-moved id shift s.below
          ∙ state.distinct id (sym (any-placed id source lines Above (moved_kept shift s.above) ∙ any-moved id shift s.above) ∙ e);
      few = omega (
        arith,
        state.few,
        length-map (moved_kept shift s.above) (placed source lines Above),
        length-map (moved_kept shift s.below) (placed source lines Below),
        length-moved shift s.above,
        length-moved shift s.below,
      );
      above = placed-at source w lines followed.equal Above (moved_kept shift s.above) followed.anchors_above;
      below = placed-at source w lines followed.equal Below (moved_kept shift s.below) followed.anchors_below;
    }
