-- What a `sync` makes of the blocks of one side, and what it asks of them.
use Rattle.std.specs.Prelude.{◌≡◌, ℕ, ◌+◌, ◌<◌, ◌^◌, ◌⊎◌, false, List, [], count_by, length, map, Option, Some, None, slice_get}
use Rattle.std.specs.List.{All, Contains}
use Rattle.cell_units.specs.declared.place.Bias.{Bias}
use Rattle.cell_units.specs.declared.place.Bias.TheVariants.{Left, Right}
use Rattle.cell_units.specs.declared.place.Shift.{Shift}
use Rattle.cell_units.specs.declared.place.Side.{Side}
use Rattle.cell_units.specs.declared.place.Side.TheVariants.{Above, Below}
use Rattle.cell_units.specs.Layers.{Source, shown_lines}
use Rattle.cell_units.specs.Rows.{all_rows}
use Rattle.cell_units.specs.Text.{IsBoundary}
use Rattle.edit_patch.specs.declared.edit.Edit.{Edit}
use Rattle.edit_patch.specs.Fits.{Fits}
use Rattle.mark_tree.specs.Marks.{is_met, move_mark, moved_marks}
use Rattle.block_map.specs.Follows.{Follows, KeepsLine, block_height}
use Rattle.block_map.specs.Maps.{Kept, fresh, moved_kept, row_at_line, stop_of}
use Rattle.block_map.specs.Stops.{Stop}
use Rattle.block_map.specs.inside.RowMoves.{MayBeMoved, carried}
use Rattle.block_map.specs.inside.Sides.{BlockMark, IsSide}
use Rattle.block_map.specs.inside.StopLists.{AreRising, StopsFit}
use Rattle.block_map.specs.inside.TwoSides.{WasAtLine}
use Rattle.block_map.specs.inside.Without.{IsRising, without}

-- above a line a stop is before a row, and below it after one
abbrev pub bias_of : Side → Bias
bias_of Above = Left
bias_of Below = Right

-- the marks after the replacement, if there was one
abbrev pub marks_after : Option Shift → List BlockMark → List BlockMark
marks_after None ms = ms
marks_after (Some s) ms = moved_marks s ms

abbrev pub mark_after : Option Shift → BlockMark → BlockMark
mark_after None m = m
mark_after (Some s) m = move_mark s m

-- how many marks the replacement meets, if there was one
abbrev pub met_count : Option Shift → List BlockMark → ℕ
met_count None ms = 0
met_count (Some s) ms = count_by (is_met s) ms

-- the stop of a mark at its line
abbrev pub stop_of_mark : Source → List (List (List ℕ)) → Side → BlockMark → Stop
stop_of_mark source lines side m = stop_of source lines side (fresh m.id m.offset m.load)

abbrev pub stops_of_marks : Source → List (List (List ℕ)) → Side → List BlockMark → List Stop
stops_of_marks source lines side ms = map (stop_of_mark source lines side) ms

-- The stops of marks may be at their lines: anchors are boundaries, each line has its rows, and they are in order and
-- fit.
pub record MayStand (source : Source) (lines : List (List (List ℕ))) (side : Side)
    (ms : List BlockMark) : Type 0 where
  pub anchors : All (λ m. IsBoundary source.text m.offset) ms
  pub equal : length (shown_lines source) ≡ length lines
  pub order : AreRising 0 (stops_of_marks source lines side ms)
  pub fits : StopsFit (stops_of_marks source lines side ms)

-- The blocks of one side follow the edits of rows, by which the rows of the old lines became those of the new ones.
pub record IsSideFollowed (source : Source) (shift : Option Shift) (es : List Edit)
    (old new : List (List (List ℕ))) (side : Side) (ks : List Kept) : Type 0 where
  pub edits : Fits es (all_rows old) (all_rows new)
  pub equal : length (shown_lines source) ≡ length new
  pub anchors : All (λ k. IsBoundary source.text k.offset) (moved_kept shift ks)
  pub follows : All (Follows source shift es old new side) ks
  pub stood : All (WasAtLine old side) ks
  pub sizes : length (all_rows new) + block_height ks < 2 ^ 32

-- the replacement doesn't meet the mark, if there was one
abbrev pub IsUnmet : Option Shift → BlockMark → Type 0
IsUnmet None m = Unit {0}
IsUnmet (Some s) m = is_met s m ≡ false

-- Marks may have a replacement yet to follow, if there was one: it meets none of them, and where they go is a u32.
pub record MayFollow (shift : Option Shift) (ms : List BlockMark) : Type 0 where
  pub unmet : All (IsUnmet shift) ms
  pub fits : All (λ m. m.offset < 2 ^ 32) (marks_after shift ms)

-- A stop may be carried by the edits: its block was shown, its mark isn't met, and the edits keep every row of its
-- line.
pub record MayBeCarried (shift : Option Shift) (es : List Edit) (old : List (List (List ℕ))) (side : Side)
    (m : BlockMark) (s : Stop) : Type 0 where
  pub unmet : IsUnmet shift m
  pub shown : s.lines ≡ m.load
  pub kept : (line : ℕ) → line < length old → s.row ≡ row_at_line old side line → KeepsLine es old line

-- each stop is at one of the places, or may be carried
abbrev pub LeaveCarried : Option Shift → List Edit → List (List (List ℕ)) → Side
    → List BlockMark → List Stop → List ℕ → Type 0
LeaveCarried shift es old side ms ss places =
    (k : ℕ) (m : BlockMark) (s : Stop) → slice_get ms k ≡ Some m → slice_get ss k ≡ Some s
    → Contains places k ⊎ MayBeCarried shift es old side m s

-- The stops of some places may be made anew, where edits carry the others: then each mark, moved, has its stop at its
-- line.
pub record MayBeRemade (source : Source) (shift : Option Shift) (es : List Edit) (lines : List (List (List ℕ)))
    (side : Side) (places : List ℕ) (ms : List BlockMark) (ss : List Stop) : Type 0 where
  pub rising : IsRising 0 places
  pub within : All (λ a. a < length ss) places
  pub paired : length ss ≡ length ms
  pub fit : StopsFit ss
  pub moved : MayBeMoved (bias_of side) es (without places 0 ss)
  pub others : map (carried (bias_of side) es) (without places 0 ss)
      ≡ without places 0 (stops_of_marks source lines side (marks_after shift ms))
  pub stand : MayStand source lines side (marks_after shift ms)
  pub is_side : IsSide (marks_after shift ms) (stops_of_marks source lines side (marks_after shift ms)) []
