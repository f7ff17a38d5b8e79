-- The places of stops that a `sync` makes anew.
use Rattle.std.specs.Prelude.{◌≡◌, ℕ, ◌+◌, ◌<◌, ◌≤◌, ◌⊎◌, true, List, [], length, Option, Some, None, slice_get}
use Rattle.std.specs.List.{All, Contains, position_or_len}
use Rattle.cell_units.specs.declared.place.Bias.TheVariants.{Right}
use Rattle.cell_units.specs.declared.place.Shift.{Shift}
use Rattle.cell_units.specs.declared.place.Side.{Side}
use Rattle.cell_units.specs.Rows.{line_rows, rows_before}
use Rattle.edit_patch.specs.declared.edit.Edit.{Edit}
use Rattle.edit_patch.specs.Came.{IsReplaced}
use Rattle.mark_tree.specs.declared.mark.Mark.{Mark}
use Rattle.mark_tree.specs.Marks.{is_met, is_not_before}
use Rattle.sum_core.specs.declared.load.NoLoad.{NoLoad}
use Rattle.block_map.specs.Follows.{KeepsLine}
use Rattle.block_map.specs.Maps.{row_at_line}
use Rattle.block_map.specs.Stops.{Stop}
use Rattle.block_map.specs.inside.Sides.{BlockMark}

-- from one place up to another
abbrev pub IsIn : ℕ → ℕ → ℕ → Type 0
IsIn from to k = (from ≤ k) × (k < to)

-- More places, less than n: those that were there, and each that is P; each that is new is Q.
pub record Grows (n : ℕ) (P Q : ℕ → Type 0) (old new : List ℕ) : Type 0 where
  pub kept : (k : ℕ) → Contains old k → Contains new k
  pub more : (k : ℕ) → P k → Contains new k
  pub only : (k : ℕ) → Contains new k → Contains old k ⊎ Q k
  pub within : All (λ a. a < n) old → All (λ a. a < n) new

-- the replacement meets the mark at the place
abbrev pub IsMetAt : Option Shift → List BlockMark → ℕ → Type 0
IsMetAt None ms k = ⊥
IsMetAt (Some s) ms k = (m : BlockMark) × (slice_get ms k ≡ Some m) × (is_met s m ≡ true)

-- nothing is shown of the block at the place
abbrev pub IsBlankAt : List Stop → ℕ → Type 0
IsBlankAt ss k = (s : Stop) × (slice_get ss k ≡ Some s) × (s.lines ≡ [])

-- the edits replace a row of the line at which the stop of the place is
pub record IsEditedAt (es : List Edit) (lines : List (List (List ℕ))) (side : Side)
    (ss : List Stop) (k : ℕ) : Type 0 where
  pub stop : Stop
  pub line : ℕ
  pub row : ℕ
  pub there : slice_get ss k ≡ Some stop
  pub within : line < length lines
  pub stands : stop.row ≡ row_at_line lines side line
  pub of_line : row < length (line_rows lines line)
  pub replaced : IsReplaced es (rows_before lines line + row)

-- the edits replace a row of whichever line the stop of the place is at
abbrev pub IsTouchedAt : List Edit → List (List (List ℕ)) → Side → List Stop → ℕ → Type 0
IsTouchedAt es lines side ss k =
    (s : Stop) (line : ℕ) → slice_get ss k ≡ Some s → line < length lines
    → s.row ≡ row_at_line lines side line → ¬ KeepsLine es lines line

-- the place is that of the mark of an anchor
abbrev pub IsAnchoredAt : List (Mark NoLoad) → List BlockMark → ℕ → Type 0
IsAnchoredAt anchors ms k =
    (j : ℕ) × (a : Mark NoLoad) × (slice_get anchors j ≡ Some a)
    × (k ≡ position_or_len (is_not_before a.offset Right a.id) ms)

-- what is shown of the block at the place is made anew
abbrev pub IsAnewAt : Option Shift → List Edit → List (List (List ℕ)) → Side
    → List BlockMark → List Stop → List (Mark NoLoad) → ℕ → Type 0
IsAnewAt shift es lines side ms ss anchors k =
    IsMetAt shift ms k ⊎ (IsAnchoredAt anchors ms k ⊎ IsTouchedAt es lines side ss k)

-- the row is one of the line's
pub record IsOfLine (lines : List (List (List ℕ))) (line row : ℕ) : Type 0 where
  pub there : line < length lines
  pub from : rows_before lines line ≤ row
  pub to : row < rows_before lines line + length (line_rows lines line)

-- so many rows are before what is on a side of the row's line
pub record IsBeside (lines : List (List (List ℕ))) (side : Side) (row before : ℕ) : Type 0 where
  pub line : ℕ
  pub of_line : IsOfLine lines line row
  pub stands : before ≡ row_at_line lines side line
