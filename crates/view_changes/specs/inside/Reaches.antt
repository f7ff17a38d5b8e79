-- What an operation reaches of the record that it finds.
use Rattle.std.specs.Prelude.{ℕ, ◌≡◌, ◌≤◌, List, length}
use Rattle.cell_units.specs.declared.place.Side.{Side}
use Rattle.cell_units.specs.Operation.{AddBlock, Operation, RemoveBlock}
use Rattle.cell_units.specs.Record.{Record}
use Rattle.cell_units.specs.Text.{IsBoundary}
use Rattle.display_sheet.specs.LineStep.{line_step}
use Rattle.display_sheet.specs.Shown.{unstamped}
use Rattle.cell_units.specs.Touched.{EachLine, NoLine, RowRange, Rows, row_range, touched}
use Rattle.row_pieces.specs.declared.row_change.RowChange.{RowChange}
use Rattle.row_pieces.specs.Changed.{change, looks_by_line, rows_of_lines}
use Rattle.row_pieces.specs.Laws.{LeavesBlocks}
use Rattle.view_changes.specs.declared.reach.Reach.{Reach}
use Rattle.view_changes.specs.declared.reach.Reach.TheVariants as reaches

-- the operation touches the rows from that of one offset to that of another
pub record TouchesRows (operation : Operation) (r : Record) (a b : ℕ) : Type 0 where
  pub after : RowRange
  pub rows : touched operation r ≡ Rows (row_range r.text a b) after
  pub start : IsBoundary r.text a
  pub end : IsBoundary r.text b
  pub order : a ≤ b

abbrev pub Reaches : Operation → Record → Reach → Type 0
Reaches operation r (reaches.Rows a b) = TouchesRows operation r a b
Reaches operation r reaches.EachLine = touched operation r ≡ EachLine
Reaches operation r reaches.NoLine = LeavesBlocks operation × (touched operation r ≡ NoLine)
Reaches operation r (reaches.NewBlock id) =
    (row : ℕ) × (side : Side) × (lines : List (List ℕ)) × (operation ≡ AddBlock row id side lines)
Reaches operation r (reaches.OldBlock id) = operation ≡ RemoveBlock id

-- the record after an operation, without its stamps
abbrev pub IsAfter : Operation → Record → Record → Type 0
IsAfter operation r after = after ≡ unstamped (line_step operation r)

-- the rows of all lines make place for those of all lines
abbrev pub all_rows : Record → Record → RowChange
all_rows r s =
    rows_of_lines (change 0 (length r.marks) (length s.marks)) (looks_by_line r) (looks_by_line s)
