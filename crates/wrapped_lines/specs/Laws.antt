-- Laws of wrapped lines.
use Rattle.std.specs.Prelude.{ℕ, ◌≡◌, ◌+◌, ◌<◌, ◌≤◌, List, length, Option}
use Rattle.cell_units.specs.declared.limits.TheConstants.{LAID_LIMIT}
use Rattle.cell_units.specs.Lawful.{IsLawful, source_of}
use Rattle.cell_units.specs.Record.{Record}
use Rattle.cell_units.specs.Rows.{line_rows, rows_before}
use Rattle.display_sheet.specs.Landing.{landed_at}
use Rattle.edit_patch.specs.declared.edit.Edit.{Edit}
use Rattle.edit_patch.specs.Came.{Came, IsReplaced}
use Rattle.tab_map.specs.TabLines.{lines_at}
use Rattle.wrapped_lines.specs.Changed.{IsLandedAt}
use Rattle.wrapped_lines.specs.Places.{marks_at}
use Rattle.wrapped_lines.specs.WrappedSource.{HaveRoom, WrappedSource, lines_of, row_texts}

-- the lines of a lawful record have room, whatever its text of those that are laid out
abbrev pub HasRoomForLines : Type 0
HasRoomForLines = (r : Record) → IsLawful r → length r.text ≤ LAID_LIMIT → HaveRoom (lines_at (source_of r) r.tab)

-- the marks are those that a record has when its lines at the places land one after another
abbrev pub AreSet : Type 0
AreSet = (places : List (Option ℕ)) (width : ℕ) (marks : List ℕ) → marks_at places width marks ≡ landed_at width places marks

-- the edits keep every row of a line
abbrev pub KeepsLine : List Edit → List (List (List ℕ)) → ℕ → Type 0
KeepsLine es lines line = (k : ℕ) → k < length (line_rows lines line) → ¬ IsReplaced es (rows_before lines line + k)

-- the line has as many rows as it had, and each came from its own
pub record IsKept (es : List Edit) (old new : List (List (List ℕ))) (line : ℕ) : Type 0 where
  pub there : line < length new
  pub size : length (line_rows new line) ≡ length (line_rows old line)
  pub rows : (k : ℕ) → k < length (line_rows old line) → Came es (rows_before new line + k) (rows_before old line + k)

-- when lines land, a line of which every row is kept stays where it is
abbrev pub KeptLinesStay : Type 0
KeptLinesStay = (old new : WrappedSource) (places : List (Option ℕ)) (rows : List Edit) →
    length old.marks ≡ length (lines_of old) → IsLandedAt old places new rows →
    (line : ℕ) → line < length (row_texts old) → KeepsLine rows (row_texts old) line →
    IsKept rows (row_texts old) (row_texts new) line
