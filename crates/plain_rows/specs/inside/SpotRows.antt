-- Rows counted line by line, and a record laid out in display lines.
use Rattle.std.specs.Prelude.{ℕ, ◌≡◌, ◌*◌, ◌≤◌, ◌<◌, List, length, slice_index_or}
use Rattle.cell_units.specs.declared.place.Side.{Side}
use Rattle.cell_units.specs.Lawful.{IsLawful, source_of}
use Rattle.cell_units.specs.Record.{Record}
use Rattle.cell_units.specs.declared.limits.TheConstants.{LAID_LIMIT}
use Rattle.plain_rows.specs.FoldedLines.{AreLinesOf, LaidOut}
use Rattle.plain_rows.specs.Rows.{blocks_at}
use Rattle.plain_rows.specs.Spots.{rows_before}
use Rattle.plain_rows.specs.inside.BuiltRows.{shown_limit}

-- the most cells of a line: sixteen for each byte that a text which is laid out shows with its inlays and folds
abbrev pub cells_limit : ℕ
cells_limit = 16 * shown_limit

-- of each display line, how many rows are before its text rows
pub record HasFirstRows (r : Record) (rows : List ℕ) : Type 0 where
  pub each : (line : ℕ) → line < length r.marks → slice_index_or rows line 0 ≡ rows_before r line
  pub count : length rows ≡ length r.marks

-- of each display line, how many rows of blocks are on that side of it
pub record HasBlockRows (r : Record) (side : Side) (rows : List ℕ) : Type 0 where
  pub each : (line : ℕ) → line < length r.marks → slice_index_or rows line 0 ≡ length (blocks_at r side line)
  pub count : length rows ≡ length r.marks

-- a lawful record is laid out in such lines
pub record IsLaid (r : Record) (lines : LaidOut) (first_rows : List ℕ) : Type 0 where
  pub lawful : IsLawful r
  pub size : length r.text ≤ LAID_LIMIT
  pub lines_are : AreLinesOf (source_of r) lines
  pub rows_are : HasFirstRows r first_rows
