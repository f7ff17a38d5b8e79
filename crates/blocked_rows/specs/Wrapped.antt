-- What a wrap map returns, as it is given to a change of blocks.
use Rattle.std.specs.Prelude.{ℕ, ◌≡◌, ◌+◌, ◌≤◌, ◌^◌, List, length, Some}
use Rattle.cell_line.specs.declared.element.Element.{Element}
use Rattle.cell_line.specs.declared.lines.Run.{Run}
use Rattle.cell_units.specs.declared.place.Shift.{Shift}
use Rattle.cell_units.specs.Rows.{all_rows}
use Rattle.edit_patch.specs.declared.edit.Edit.{Edit}
use Rattle.edit_patch.specs.Fits.{Fits, replacement}
use Rattle.edit_patch.specs.Leads.{LeadsAt}
use Rattle.wrap_map.specs.Landing.{IsPatchOfLanded, standing_landed}
use Rattle.wrap_map.specs.Standing.{AreRowsOf, Standing, shown_rows, standing_after}
use Rattle.blocked_rows.specs.Records.{IsRowSplice, LinesStay}

-- A wrap map replaced lines, and the edits replace the rows that it returned.
pub record IsRewrapped (old : Standing) (lines : List (List Element)) (below rows : Shift) (edits : List Edit) : Type 0 where
  pub one_each : length old.marks ≡ length old.lines
  pub leads : LeadsAt old.lines lines below.start below.end below.count
  pub rows_are : AreRowsOf old below rows
  pub edits_are : edits ≡ replacement rows.start rows.end rows.count
  pub fits : Fits edits (all_rows (shown_rows old)) (all_rows (shown_rows (standing_after old lines (Some below))))
  pub room : length (all_rows (shown_rows (standing_after old lines (Some below)))) ≤ 2 ^ 31

-- the lines that came have one row each
abbrev pub SplicesRows : Type 0
SplicesRows = (old : Standing) (lines : List (List Element)) (below rows : Shift) (edits : List Edit)
    → IsRewrapped old lines below rows edits → (before : ℕ) → below.end ≡ below.start + before
    → IsRowSplice (shown_rows old) (shown_rows (standing_after old lines (Some below))) edits below.start before below.count

-- where lines landed, each other line keeps its rows
abbrev pub LandsLines : Type 0
LandsLines = (old : Standing) (since : List Edit) (run : Run) (width : ℕ) (patch : List Edit)
    → let new = standing_landed since run width old in
    length old.marks ≡ length old.lines → IsPatchOfLanded old new since run patch
    → length (all_rows (shown_rows new)) ≤ 2 ^ 31 → LinesStay (shown_rows old) (shown_rows new) patch
