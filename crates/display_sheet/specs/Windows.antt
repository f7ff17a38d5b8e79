-- Rows from some number on, up to a count.
use Rattle.std.specs.Prelude.{ℕ, ◌≡◌, ◌-◌, ◌==◌, if◌then◌else◌, List, [], ◌∷◌, ◌++◌, length, map, take, drop, slice_index_or}
use Rattle.cell_units.specs.declared.place.Side.{Side}
use Rattle.cell_units.specs.Record.{Block, Record, plain_mark}
use Rattle.cell_line.specs.RowTexts.{row_texts_of}
use Rattle.plain_rows.specs.Plain.{row_pairs}
use Rattle.plain_rows.specs.Rows.{block_rows, is_on, line_elements, more_kind}
use Rattle.cell_line.specs.declared.lines.MarkRun.{MarkRun}
use Rattle.plain_rows.specs.declared.shown.Shown.{Shown}
use Rattle.display_sheet.specs.declared.window.Window.{Window}
use Rattle.plain_rows.specs.ShownRows.{shown_rows}

abbrev pub shown_pairs : List Shown → List (ℕ × List ℕ)
shown_pairs shown = row_pairs (shown_rows shown)

-- rows went past: those to be skipped are gone, and of the others as many are kept as had room
pub record HasPassed (rows : List (ℕ × List ℕ)) (old new : Window) : Type 0 where
  pub kept :
      shown_pairs new.rows.items ≡ shown_pairs old.rows.items ++ take old.left (drop old.skip rows)
  pub skip : new.skip ≡ old.skip - length rows
  pub left : new.left ≡ old.left - (length rows - old.skip)

-- the rows of a block, if it is on the side
abbrev pub rows_on : Side → Block → List (ℕ × List ℕ)
rows_on side block = if is_on side block.side then row_pairs (block_rows block) else []

-- texts as rows: the first of this kind, and the others go on
abbrev pub kind_and_more : ℕ → List (List ℕ) → List (ℕ × List ℕ)
kind_and_more kind [] = []
kind_and_more kind (text ∷ texts) = (kind, text) ∷ map (λ t. (more_kind, t)) texts

-- the texts of the rows of the line of this number
abbrev pub texts_at : Record → ℕ → List (List ℕ)
texts_at r line =
    row_texts_of (slice_index_or (line_elements r) line []) (slice_index_or r.marks line (plain_mark 0)).width

-- a run of wrapped lines, or none
abbrev pub run_or_none : MarkRun → List MarkRun
run_or_none run = if run.width == 0 then [] else (run ∷ [])
