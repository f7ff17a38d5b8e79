-- Which buffer rows an operation touches, and which display lines.
use Rattle.std.specs.Prelude.{ℕ, ◌+◌, ◌==◌, ◌&&◌, not, nat_le, Bool, true, false, List, ◌++◌, length, map, filter, find, zip, replicate, Option, Some, None}
use Rattle.cell_units.specs.Text.{clean, row_of}
use Rattle.cell_units.specs.Record.{Inlay, Fold, Record}
use Rattle.cell_units.specs.Operation.{Operation, Replace, AddInlay, RemoveInlay, AddFold, RemoveFold, AddBlock, RemoveBlock, SetTab, SetWidth, replaced_text}
use Rattle.cell_units.specs.Inlaid.{Token}
use Rattle.cell_units.specs.Folded.{display_lines, span_start, span_end}

-- the buffer rows from the first to the last
pub record RowRange : Type 0 where
  pub first : ℕ
  pub last : ℕ

-- the rows from that of one offset to that of another
abbrev pub row_range : List ℕ → ℕ → ℕ → RowRange
row_range text start end = record { first = row_of text start; last = row_of text end }

-- what an operation touches: no display line, each, or those of these buffer rows before it and after it
pub data Touched : Type 0 where
  NoLine : Touched
  EachLine : Touched
  Rows : (before after : RowRange) → Touched

-- the rows of two offsets of a text that stays
abbrev pub rows_of : List ℕ → ℕ → ℕ → Touched
rows_of text start end = Rows (row_range text start end) (row_range text start end)

-- those of an inlay or a fold that is removed, if it is there
abbrev pub rows_of_inlay : List ℕ → Option Inlay → Touched
rows_of_inlay text None = NoLine
rows_of_inlay text (Some i) = rows_of text i.offset i.offset

abbrev pub rows_of_fold : List ℕ → Option Fold → Touched
rows_of_fold text None = NoLine
rows_of_fold text (Some f) = rows_of text f.start f.end

-- what the operation touches of the record that it finds. After a replacement the rows end at the row of the place
-- after the new bytes
abbrev pub touched : Operation → Record → Touched
touched (Replace a b s) r =
    Rows (row_range r.text a b) (row_range (replaced_text r.text a b (clean s)) a (a + length (clean s)))
touched (AddInlay i) r = rows_of r.text i.offset i.offset
touched (RemoveInlay id) r = rows_of_inlay r.text (find (λ i. i.id == id) r.inlays)
touched (AddFold f) r = rows_of r.text f.start f.end
touched (RemoveFold id) r = rows_of_fold r.text (find (λ f. f.id == id) r.folds)
touched (AddBlock row id side lines) r = NoLine
touched (RemoveBlock id) r = NoLine
touched (SetTab tab) r = EachLine
touched (SetWidth width) r = NoLine

-- a display line is touched where its span meets a touched row
abbrev pub is_touched : List ℕ → RowRange → List Token → Bool
is_touched text rows line = nat_le (span_start text line) rows.last && nat_le rows.first (span_end text line)

-- of each display line of the record, whether it is touched by the rows
abbrev pub touched_lines : RowRange → Record → List Bool
touched_lines rows r = map (is_touched r.text rows) (display_lines r.text r.inlays r.folds)

-- of each display line of the record, the same value
abbrev pub all_lines : Bool → Record → List Bool
all_lines answer r = map (λ line. answer) (display_lines r.text r.inlays r.folds)

-- of each display line of the record that the operation finds, whether it is touched
abbrev pub touched_before : Touched → Record → List Bool
touched_before NoLine r = all_lines false r
touched_before EachLine r = all_lines true r
touched_before (Rows before after) r = touched_lines before r

-- of each display line of the record that it leaves
abbrev pub touched_after : Touched → Record → List Bool
touched_after NoLine r = all_lines false r
touched_after EachLine r = all_lines true r
touched_after (Rows before after) r = touched_lines after r

-- those of a list, one for each display line, that belong to untouched lines
abbrev pub untouched : {X : Type 0} → List Bool → List X → List X
untouched touched xs = map (λ p. p.1) (filter (λ p. not p.0) (zip touched xs))

-- untouched lines, then touched ones, then untouched ones
abbrev pub one_run : ℕ → ℕ → ℕ → List Bool
one_run front middle back = replicate front false ++ (replicate middle true ++ replicate back false)
