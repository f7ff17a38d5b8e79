-- Which rows operations replace, one after another.
use Rattle.std.specs.Prelude.{ℕ, ◌≡◌, ◌+◌, ◌-◌, ◌<◌, List, [], ◌∷◌, length}
use Rattle.cell_units.specs.Lawful.{IsAllowed}
use Rattle.cell_units.specs.LineCounts.{TouchesOneRun, line_of_row_end, line_of_row_start}
use Rattle.cell_units.specs.Operation.{AddBlock, Operation, RemoveBlock, operated}
use Rattle.cell_units.specs.Record.{Record}
use Rattle.cell_units.specs.Touched.{NoLine, touched}
use Rattle.display_sheet.specs.LineStep.{line_step}
use Rattle.row_pieces.specs.declared.row_change.RowChange.{RowChange}
use Rattle.row_pieces.specs.Changed.{change, covering, looks_by_line, no_change, rows_of_lines}
use Rattle.row_pieces.specs.Laws.{IsBlockLine}

-- the lines that an operation touches make place for those that it touches after it; where it touches none, nothing does
pub record AreTouched (operation : Operation) (r : Record) (lines : RowChange) : Type 0 where
  pub run : TouchesOneRun (touched operation r) r (operated operation r)
  pub lines_are : lines ≡ change run.front (run.front + run.before) run.after
  pub nothing : touched operation r ≡ NoLine → lines ≡ no_change

-- the lines from that of the start of one offset's row to that of the end of another's make place for as many as are
-- there then
abbrev pub lines_between : Record → Record → ℕ → ℕ → RowChange
lines_between r r' a b =
    let first = line_of_row_start r a in
    let end = line_of_row_end r b + 1 in
    change first end (length r'.marks - (length r.marks - end) - first)

-- one line makes place for one: that of the block which is added or removed
pub record IsAtBlock (operation : Operation) (r : Record) (lines : RowChange) : Type 0 where
  pub line : ℕ
  pub within : line < length r.marks
  pub block_line : IsBlockLine operation r line
  pub lines_are : lines ≡ change line (line + 1) 1

-- the lines that an operation replaces
abbrev pub AreReplaced : Operation → Record → RowChange → Type 0
AreReplaced (AddBlock row id side lines) r change = IsAtBlock (AddBlock row id side lines) r change
AreReplaced (RemoveBlock id) r change = IsAtBlock (RemoveBlock id) r change
AreReplaced operation r change = AreTouched operation r change

-- the rows that an operation replaces: all rows of those lines, with the blocks at them
pub record IsChangeOf (operation : Operation) (r : Record) (rows : RowChange) : Type 0 where
  pub lines : RowChange
  pub replaced : AreReplaced operation r lines
  pub rows_are :
      rows ≡ rows_of_lines lines (looks_by_line r) (looks_by_line (line_step operation r))

-- what covers a change of rows and those of operations after it, in turn
abbrev pub Covers : RowChange → List Operation → Record → RowChange → Type 0
Covers c [] r all = all ≡ c
Covers c (operation ∷ ops) r all =
    (rows : RowChange)
    × IsChangeOf operation r rows
    × Covers (covering c rows) ops (line_step operation r) all

-- each operation is allowed where it is done
abbrev pub AreAllowed : List Operation → Record → Type 0
AreAllowed [] r = Unit {0}
AreAllowed (operation ∷ ops) r = IsAllowed operation r × AreAllowed ops (line_step operation r)

-- the record after operations, one after another
abbrev pub stepped_by : List Operation → Record → Record
stepped_by [] r = r
stepped_by (operation ∷ ops) r = stepped_by ops (line_step operation r)
