-- What the blocks of a record have to do with its rows, and what an operation makes of them.
use Rattle.std.specs.Prelude.{ℕ, ◌≡◌, ◌+◌, ◌==◌, ◌<◌, ◌≤◌, ◌^◌, List, length, None, Option}
use Rattle.std.specs.List.{list_any}
use Rattle.cell_units.specs.declared.place.Shift.{Shift}
use Rattle.cell_units.specs.declared.place.Side.{Side}
use Rattle.cell_units.specs.BufferLines.{line_start}
use Rattle.cell_units.specs.Lawful.{HasLawfulEntries, IsAllowed, IsLawful, source_of}
use Rattle.cell_units.specs.LineCounts.{TouchesOneRun, lines_of}
use Rattle.cell_units.specs.Operation.{AddBlock, Operation, RemoveBlock, operated}
use Rattle.cell_units.specs.Record.{Record}
use Rattle.cell_units.specs.Rows.{all_rows}
use Rattle.cell_units.specs.Touched.{touched}
use Rattle.plain_rows.specs.Rows.{rows_by_line, rows_of}
use Rattle.plain_rows.specs.SpotRows as spots
use Rattle.plain_rows.specs.Spots.{rows_before}
use Rattle.edit_patch.specs.declared.edit.Edit.{Edit}
use Rattle.block_map.specs.Between as between
use Rattle.block_map.specs.Between.{IsLastBegun, place_of_row, rows_between}
use Rattle.block_map.specs.Follows.{IsFollowed}
use Rattle.block_map.specs.Maps.{BlockState, has_block, removed, synced}
use Rattle.blocked_rows.specs.Records.{IsRowSplice, IsShiftOf, Lines, LinesStay, kept_blocks, shown_of}
use Rattle.blocked_rows.specs.Standing.{ArePlaced, with_block}

-- ---- the rows of a record

-- line by line they show the rows of the record
abbrev pub ShowsLines : Type 0
ShowsLines = (r : Record) → IsLawful r → between.rows_by_line (shown_of r) ≡ rows_by_line r

-- and all of them, in order
abbrev pub ShowsRows : Type 0
ShowsRows = (r : Record) → IsLawful r → rows_between (shown_of r) ≡ rows_of r

-- the text rows of a line begin where those of the record's line do
abbrev pub BeginsLines : Type 0
BeginsLines = (r : Record) → IsLawful r → (line : ℕ) → line < length r.marks
    → place_of_row (shown_of r) line 0 ≡ rows_before r line

-- the last line that begins at or before a row is that of the record
abbrev pub FindsLines : Type 0
FindsLines = (r : Record) → IsLawful r → (row line : ℕ)
    → IsLastBegun (shown_of r) row line → spots.IsLastBegun r row line

-- ---- the blocks of a record

-- they are those of what is shown of the record, each at its line
abbrev pub PlacesBlocks : Type 0
PlacesBlocks = (r : Record) → HasLawfulEntries r → (lines : Lines)
    → length (lines_of r) ≡ length lines → length (all_rows lines) ≤ 2 ^ 31
    → ArePlaced (source_of r) (kept_blocks r lines)

-- they have the ids of the record's blocks
abbrev pub HaveIds : Type 0
HaveIds = (r : Record) (lines : Lines) (id : ℕ)
    → has_block id (kept_blocks r lines) ≡ list_any (λ b. b.id == id) r.blocks

-- and are as many
abbrev pub AreAsMany : Type 0
AreAsMany = (r : Record) (lines : Lines) → let s = kept_blocks r lines in
    length s.above + length s.below ≡ length r.blocks

-- ---- what an operation makes of them

-- a block that is added at the start of its row is one more of the record
abbrev pub AddsToRecord : Type 0
AddsToRecord = (r : Record) → HasLawfulEntries r → (lines : Lines)
    (row id : ℕ) (side : Side) (given : List (List ℕ))
    → with_block (source_of r) side id (line_start r.text row) given (kept_blocks r lines)
    ≡ kept_blocks (operated (AddBlock row id side given) r) lines

-- one that is taken out is none of the record
abbrev pub TakesFromRecord : Type 0
TakesFromRecord = (r : Record) (lines : Lines) (id : ℕ)
    → removed id (kept_blocks r lines) ≡ kept_blocks (operated (RemoveBlock id) r) lines

-- the operation adds no block and removes none
abbrev pub LeavesBlocks : Operation → Type 0
LeavesBlocks (AddBlock row id side given) = ⊥
LeavesBlocks (RemoveBlock id) = ⊥
LeavesBlocks _ = Unit {0}

-- any other operation moves them, and they are shown at the lines that are there after it
abbrev pub MovesWithRecord : Type 0
MovesWithRecord = (operation : Operation) (r : Record) → LeavesBlocks operation
    → (shift : Option Shift) → IsShiftOf operation shift → (old new : Lines)
    → synced (source_of (operated operation r)) shift new (kept_blocks r old)
    ≡ kept_blocks (operated operation r) new

-- ---- what `after` may be given

-- after an operation: edits of the rows of the lines that it touches, in whose place lines of one row each come
abbrev pub FollowsOperations : Type 0
FollowsOperations = (operation : Operation) (r : Record) → HasLawfulEntries r → IsAllowed operation r
    → (run : TouchesOneRun (touched operation r) r (operated operation r))
    → (shift : Option Shift) → IsShiftOf operation shift
    → (new : Lines) (edits : List Edit) (s : BlockState) → ArePlaced (source_of r) s
    → IsRowSplice s.lines new edits run.front run.before run.after
    → IsFollowed (source_of (operated operation r)) shift edits new s

-- where the text stays: any edits of rows by which each line that keeps all its rows goes to itself
abbrev pub FollowsRows : Type 0
FollowsRows = (r : Record) → HasLawfulEntries r
    → (new : Lines) (edits : List Edit) (s : BlockState) → ArePlaced (source_of r) s
    → LinesStay s.lines new edits → IsFollowed (source_of r) None edits new s
