-- What a `sync` asks of its arguments.
use Rattle.std.specs.Prelude.{◌≡◌, ℕ, ◌+◌, ◌<◌, ◌^◌, List, length, Option, Some, None, sum_by}
use Rattle.std.specs.List.{All}
use Rattle.cell_units.specs.declared.place.Shift.{Shift}
use Rattle.cell_units.specs.declared.place.Side.{Side}
use Rattle.cell_units.specs.declared.place.Side.TheVariants.{Above, Below}
use Rattle.cell_units.specs.Layers.{Source, shown_lines}
use Rattle.cell_units.specs.Rows.{all_rows, line_rows, rows_before}
use Rattle.cell_units.specs.Text.{IsBoundary}
use Rattle.edit_patch.specs.declared.edit.Edit.{Edit}
use Rattle.edit_patch.specs.Came.{Came, IsReplaced}
use Rattle.edit_patch.specs.Fits.{Fits}
use Rattle.block_map.specs.Maps.{BlockState, Kept, line_of_kept, moved_kept, move_kept, row_at_line}

-- the edits keep every row of a line
abbrev pub KeepsLine : List Edit → List (List (List ℕ)) → ℕ → Type 0
KeepsLine es lines line =
    (k : ℕ) → k < length (line_rows lines line) → ¬ IsReplaced es (rows_before lines line + k)

-- The rows of one line go to another: it has as many, and each came from that one's row of its number.
pub record GoesTo (es : List Edit) (old new : List (List (List ℕ))) (line other : ℕ) : Type 0 where
  pub there : other < length new
  pub size : length (line_rows new other) ≡ length (line_rows old line)
  pub rows : (k : ℕ) → k < length (line_rows old line)
      → Came es (rows_before new other + k) (rows_before old line + k)

-- the block after the replacement, if there was one
abbrev pub moved_one : Option Shift → Kept → Kept
moved_one None k = k
moved_one (Some s) k = move_kept s k

-- a block that was shown at a line of which every row is kept is at the line to which those rows go
abbrev pub Follows : Source → Option Shift → List Edit → List (List (List ℕ)) → List (List (List ℕ))
    → Side → Kept → Type 0
Follows source shift es old new side k =
    (line : ℕ) → line < length old → k.row ≡ Some (row_at_line old side line)
    → KeepsLine es old line → GoesTo es old new line (line_of_kept source side (moved_one shift k))

-- how many rows blocks have
abbrev pub block_height : List Kept → ℕ
block_height ks = sum_by (λ k. length k.lines) ks

-- The rows that a block map showed last became these by edits of rows. The layer beside them was made by a replacement
-- of the text, if there was one.
pub record IsFollowed (source : Source) (shift : Option Shift) (es : List Edit)
    (lines : List (List (List ℕ))) (s : BlockState) : Type 0 where
  pub edits : Fits es (all_rows s.lines) (all_rows lines)
  pub equal : length (shown_lines source) ≡ length lines
  -- every anchor is a boundary of the new text
  pub anchors_above : All (λ k. IsBoundary source.text k.offset) (moved_kept shift s.above)
  pub anchors_below : All (λ k. IsBoundary source.text k.offset) (moved_kept shift s.below)
  pub above : All (Follows source shift es s.lines lines Above) s.above
  pub below : All (Follows source shift es s.lines lines Below) s.below
  pub sizes : length (all_rows lines) + (block_height s.above + block_height s.below) < 2 ^ 32
