-- What changes of a source with wrapped lines make of it.
use Rattle.std.specs.Prelude.{ℕ, ◌≡◌, ◌+◌, ◌<◌, ◌≤◌, if◌then◌else◌, List, length, Option, Some, None}
use Rattle.cell_units.specs.declared.fault.Fault.{Fault}
use Rattle.cell_units.specs.declared.fault.Fault.TheVariants as faults
use Rattle.cell_units.specs.declared.fault.Refusal.TheVariants.{BadNumber}
use Rattle.cell_units.specs.declared.place.Shift.{Shift}
use Rattle.cell_units.specs.Layers.{Source}
use Rattle.cell_units.specs.Rows.{all_rows, line_rows, rows_before}
use Rattle.edit_patch.specs.declared.edit.Edit.{Edit}
use Rattle.edit_patch.specs.Came.{origin_of}
use Rattle.edit_patch.specs.Fits.{Fits, replacement}
use Rattle.edit_patch.specs.Leads.{LeadsBy}
use Rattle.edit_patch.specs.Patch.{IsPatch}
use Rattle.wrap_map.specs.Standing.{marks_after}
use Rattle.wrapped_lines.specs.Places.{is_at, marks_at}
use Rattle.wrapped_lines.specs.WrappedSource.{WrappedSource, lines_of, row_texts}

-- a number that isn't lawful is refused as such; memory may be wanting only for a lawful one
abbrev pub IsNumberFault : Type 0 → Fault → Type 0
IsNumberFault Lawful (faults.Refused refusal) = (refusal ≡ BadNumber) × (¬ Lawful)
IsNumberFault Lawful faults.NoMemory = Lawful

-- the rows of replaced lines, replaced by one for each new line
abbrev pub rows_replaced : List (List (List ℕ)) → Shift → List Edit
rows_replaced rows run = replacement (rows_before rows run.start) (rows_before rows run.end) run.count

-- The lines of a run were replaced. Those that are there now are in one row each, and all others are wrapped as they
-- were.
pub record IsRewrapped (old : WrappedSource) (source : Source) (tab : ℕ) (new : WrappedSource) (run : Shift) (rows : List Edit) : Type 0 where
  pub made : new ≡ record { source = source; tab = tab; width = old.width; marks = marks_after (Some run) old.marks }
  pub leads : LeadsBy (lines_of old) (lines_of new) (Some run)
  pub rows_are : rows ≡ rows_replaced (row_texts old) run
  pub fits : Fits rows (all_rows (row_texts old)) (all_rows (row_texts new))

-- The lines at the places are wrapped at the width, and all others as they were. The patch replaces exactly the rows of
-- those lines.
pub record IsLandedAt (old : WrappedSource) (places : List (Option ℕ)) (new : WrappedSource) (rows : List Edit) : Type 0 where
  pub made : new ≡ record old { marks = marks_at places old.width old.marks }
  pub normal : IsPatch rows
  pub fits : Fits rows (all_rows (row_texts old)) (all_rows (row_texts new))
  pub came : (line k : ℕ) → line < length (lines_of old) → k < length (line_rows (row_texts new) line)
      → origin_of rows (rows_before (row_texts new) line + k)
      ≡ (if is_at places line then None else Some (rows_before (row_texts old) line + k))
  pub few : length rows ≤ length places
