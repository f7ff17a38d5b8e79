-- Parts of the text.
use Rattle.std.specs.Prelude.{ℕ, ◌&&◌, nat_le, if◌then◌else◌, List, Option, Some, None}
use Rattle.cell_units.specs.declared.fault.Refusal.{Refusal}
use Rattle.cell_units.specs.declared.fault.Refusal.TheVariants.{BadRange}
use Rattle.cell_units.specs.Text.{is_boundary}

-- why the bytes of a text from one offset to another aren't given, if they aren't
abbrev pub slice_refusal : List ℕ → (start end : ℕ) → Option Refusal
slice_refusal text start end =
    if nat_le start end && is_boundary text start && is_boundary text end then None else Some BadRange
