-- The blocks of a record between the rows of its lines.
use Rattle.std.specs.Prelude.{ℕ, ◌≡◌, ◌+◌, ◌<◌, ◌≤◌, ◌^◌, List, filter, length, map, Option, Some, None}
use Rattle.std.specs.List.{zip}
use Rattle.cell_units.specs.declared.place.Shift.{Shift}
use Rattle.cell_units.specs.declared.place.Side.{Side}
use Rattle.cell_units.specs.declared.place.Side.TheVariants.{Above, Below}
use Rattle.cell_units.specs.Lawful.{source_of}
use Rattle.cell_units.specs.Operation.{Operation, Replace}
use Rattle.cell_units.specs.Record.{Block, Record}
use Rattle.cell_units.specs.Rows.{HaveRows, all_rows, rows_before}
use Rattle.cell_units.specs.Text.{clean}
use Rattle.cell_line.specs.RowTexts.{row_texts_of}
use Rattle.plain_rows.specs.Rows.{is_on, line_elements}
use Rattle.edit_patch.specs.declared.edit.Edit.{Edit}
use Rattle.edit_patch.specs.Fits.{Fits, replacement}
use Rattle.edit_patch.specs.Leads.{LeadsAt}
use Rattle.block_map.specs.Between.{Between}
use Rattle.block_map.specs.Follows.{GoesTo, KeepsLine}
use Rattle.block_map.specs.Maps.{BlockState, Kept, fresh, placed}
use Rattle.block_map.specs.inside.ShownStops.{shown_between}

-- of each line the texts of its rows
abbrev pub Lines : Type 0
Lines = List (List (List ℕ))

-- those of a record's display lines
abbrev pub row_texts : Record → Lines
row_texts r = map (λ p. row_texts_of p.0 p.1) (zip (line_elements r) (map (λ m. m.width) r.marks))

-- a block of one side as a block map has it, shown at its line
abbrev pub kept_block : Record → Lines → Side → Block → Kept
kept_block r lines side b = placed (source_of r) lines side (fresh b.id b.offset b.lines)

-- the blocks of one side, in order
abbrev pub kept_on : Record → Lines → Side → List Kept
kept_on r lines side = map (kept_block r lines side) (filter (λ b. is_on side b.side) r.blocks)

-- the blocks of a record as a block map has them between these rows of its lines
abbrev pub kept_blocks : Record → Lines → BlockState
kept_blocks r lines = record { lines = lines; above = kept_on r lines Above; below = kept_on r lines Below }

-- what is shown of the record's own rows with its blocks
abbrev pub shown_of : Record → Between
shown_of r = shown_between (kept_blocks r (row_texts r))

-- ---- what an operation makes of the text and of the lines

-- the replacement of the text that an operation makes, or none where it leaves the text
abbrev pub IsShiftOf : Operation → Option Shift → Type 0
IsShiftOf (Replace a b s) None = ⊥
IsShiftOf (Replace a b s) (Some shift) =
    (shift.start ≡ a) × (shift.end ≡ b) × (shift.count ≡ length (clean s))
IsShiftOf _ None = Unit {0}
IsShiftOf _ (Some shift) = ⊥

-- From the line `front` on, `before` lines make place for `after` others of one row each, and the edits replace their
-- rows.
pub record IsRowSplice (old new : Lines) (edits : List Edit) (front before after : ℕ) : Type 0 where
  pub have : HaveRows old
  pub leads : LeadsAt old new front (front + before) after
  pub single : rows_before new (front + after) ≡ rows_before old front + after
  pub edits_are : edits ≡ replacement (rows_before old front) (rows_before old (front + before)) after
  pub fits : Fits edits (all_rows old) (all_rows new)
  pub room : length (all_rows new) ≤ 2 ^ 31

-- There are as many lines as there were, and each of which the edits keep every row goes to itself.
pub record LinesStay (old new : Lines) (edits : List Edit) : Type 0 where
  pub have : HaveRows old
  pub as_many : length old ≡ length new
  pub stay : (line : ℕ) → line < length old → KeepsLine edits old line → GoesTo edits old new line line
  pub fits : Fits edits (all_rows old) (all_rows new)
  pub room : length (all_rows new) ≤ 2 ^ 31
