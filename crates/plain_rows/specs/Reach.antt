-- How far an operation reaches, and how many steps it may take.
use Rattle.std.specs.Prelude.{ℕ, ◌+◌, ◌-◌, ◌*◌, ◌/◌, ◌^◌, ◌<◌, ◌≤◌, ◌&&◌, max, nat_le, Bool, false, List, length, slice_index_or}
use Rattle.std.specs.List.{count_by}
use Rattle.cell_units.specs.Folded.{display_lines}
use Rattle.cell_units.specs.Operation.{Operation, Replace, AddInlay, RemoveInlay, AddFold, RemoveFold, AddBlock, RemoveBlock, operated}
use Rattle.cell_units.specs.Record.{Record}
use Rattle.cell_units.specs.Text.{clean, row_of}
use Rattle.cell_units.specs.Touched.{Touched, NoLine, EachLine, Rows, RowRange, touched, touched_before, touched_after}
use Rattle.plain_rows.specs.Rows.{line_of_block}

-- No tree of a display of the record has more than h levels below its root.
pub record HasHeight (h : ℕ) (r : Record) : Type 0 where
  pub text : length r.text < 120 * 6 ^ (h + 1)
  pub lines : length (display_lines r.text r.inlays r.folds) < 2 * 6 ^ (h + 1)
  pub inlays : length r.inlays < 2 * 6 ^ (h + 1)
  pub folds : length r.folds < 2 * 6 ^ (h + 1)
  pub blocks : length r.blocks < 2 * 6 ^ (h + 1)

-- ---- what an operation reaches

-- one for each 64 bytes, or part of them, that are removed or inserted
abbrev pub chunks_of : Operation → ℕ
chunks_of (Replace a b s) = ((b - a) + length (clean s) + 63) / 64
chunks_of _ = 0

-- a range of bytes, or its one place, meets one of the rows
abbrev pub meets_rows : List ℕ → RowRange → ℕ → ℕ → Bool
meets_rows text rows start end = nat_le (row_of text start) rows.last && nat_le rows.first (row_of text end)

-- the inlays and folds whose anchors or ranges meet one of the rows
abbrev pub entries_on : RowRange → Record → ℕ
entries_on rows r =
    count_by (λ i. meets_rows r.text rows i.offset i.offset) r.inlays
    + count_by (λ f. meets_rows r.text rows f.start f.end) r.folds

-- the blocks at those of the display lines that have `true`
abbrev pub blocks_at_lines : List Bool → Record → ℕ
blocks_at_lines lines r = count_by (λ b. slice_index_or lines (line_of_block r b) false) r.blocks

-- the lines that have `true`
abbrev pub count_lines : List Bool → ℕ
count_lines lines = count_by (λ line. line) lines

-- the inlays and folds on touched rows of the record that the operation finds, and of the one that it leaves
abbrev pub entries_before : Touched → Record → ℕ
entries_before NoLine r = 0
entries_before EachLine r = length r.inlays + length r.folds
entries_before (Rows before after) r = entries_on before r

abbrev pub entries_after : Touched → Record → ℕ
entries_after NoLine r = 0
entries_after EachLine r = length r.inlays + length r.folds
entries_after (Rows before after) r = entries_on after r

-- and the blocks at touched lines with them
abbrev pub met_before : Touched → Record → ℕ
met_before touched r = entries_before touched r + blocks_at_lines (touched_before touched r) r

abbrev pub met_after : Touched → Record → ℕ
met_after touched r = entries_after touched r + blocks_at_lines (touched_after touched r) r

-- How far an operation reaches: the display lines that it touches, before and after it, the pieces of 64 bytes, and the
-- inlays, folds and blocks that it meets, before or after it, whichever are more.
abbrev pub reach_of_operation : Operation → Record → ℕ
reach_of_operation op r =
    let rows = touched op r in
    let new = operated op r in
    count_lines (touched_before rows r) + count_lines (touched_after rows new)
    + (chunks_of op + max (met_before rows r) (met_after rows new))

-- the entries of the kind that is searched for an id, the new one counted
abbrev pub sought_in : Operation → Record → ℕ
sought_in (AddInlay inlay) r = length r.inlays + 1
sought_in (RemoveInlay id) r = length r.inlays
sought_in (AddFold fold) r = length r.folds + 1
sought_in (RemoveFold id) r = length r.folds
sought_in (AddBlock row id side lines) r = length r.blocks + 1
sought_in (RemoveBlock id) r = length r.blocks
sought_in _ r = 0

-- ---- how many steps it may take

-- what is reached takes so many steps, at a height h
abbrev pub working : ℕ → ℕ → ℕ
working reach h = 4000 * (reach + 1) * (h + 1)

-- An operation takes at most so many steps, for each h that no tree needs more of, before it or after it.
abbrev pub WorksAtMost : Operation → Record → ℕ → ℕ → Type 0
WorksAtMost op r old new =
    (h : ℕ) → HasHeight h r → HasHeight h (operated op r) →
    new ≤ old + (sought_in op r + working (reach_of_operation op r) h)

-- A landing of so many lines, of which those with `true` are still there, takes at most so many.
abbrev pub LandsAtMost : ℕ → List Bool → Record → ℕ → ℕ → Type 0
LandsAtMost count lines r old new =
    (h : ℕ) → HasHeight h r → new ≤ old + working (count + blocks_at_lines lines r) h
