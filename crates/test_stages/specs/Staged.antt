-- A text with its lines after a replacement.
use Rattle.std.specs.Prelude.{ℕ, ◌≡◌, ◌≢◌, ◌+◌, ◌≤◌, List, length}
use Rattle.cell_units.specs.declared.limits.TheConstants.{LEAST_WIDTH, TEXT_LIMIT, WIDTH_LIMIT}
use Rattle.cell_units.specs.declared.place.Shift.{Shift}
use Rattle.cell_units.specs.Layers.{plain_source}
use Rattle.cell_units.specs.Operation.{replaced_text}
use Rattle.cell_units.specs.Text.{row_of}
use Rattle.edit_patch.specs.declared.edit.Edit.{Edit}
use Rattle.edit_patch.specs.Leads.{Reach, reach_of}
use Rattle.tab_map.specs.TabLines.{IsShift}
use Rattle.text_rope.specs.Edits.{IsRange}
use Rattle.wrapped_lines.specs.declared.lines.TheConstants.{OPENING_TAB}
use Rattle.wrapped_lines.specs.Changed.{IsRewrapped}
use Rattle.wrapped_lines.specs.WrappedSource.{WrappedSource}

-- a lawful width: other than 0 it is within the limits
abbrev pub IsWithinLimits : ℕ → Type 0
IsWithinLimits width = width ≢ 0 → (LEAST_WIDTH ≤ width) × (width ≤ WIDTH_LIMIT)

-- so many bytes are in the place of a range
abbrev pub put_at : ℕ → ℕ → List ℕ → Reach
put_at start end put = record { start = start; end = end; count = length put }

-- A text was put in the place of a range. The lines that were replaced are those of the rows of its ends, and one row
-- for each new line came for their rows.
pub record IsReplaced (old : List ℕ) (was : WrappedSource) (start end : ℕ) (put new : List ℕ) (now : WrappedSource)
    (bytes run : Shift) (rows : List Edit) : Type 0 where
  pub range : IsRange old start end
  pub small : length new ≤ TEXT_LIMIT
  pub text : new ≡ replaced_text old start end put
  pub bytes_are : reach_of bytes ≡ put_at start end put
  pub met : IsShift (row_of old start) (row_of old end + 1) (row_of new (start + length put) + 1) run
  pub rewrapped : IsRewrapped was (plain_source new) OPENING_TAB now run rows
