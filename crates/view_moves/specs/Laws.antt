-- What holds of carets and selections, in other words.
use Rattle.std.specs.Prelude.{ℕ, ◌<◌, ◌≤◌}
use Rattle.cell_units.specs.declared.place.Spot.{Spot}
use Rattle.cell_units.specs.Record.{Record}
use Rattle.plain_rows.specs.Laws.{IsValidSpot}
use Rattle.view_moves.specs.declared.caret.RowSpan.{RowSpan}

abbrev pub at : ℕ → ℕ → Spot
at row col = record { row = row; col = col }

-- a span goes from one valid spot of its row to another that is not before it
abbrev pub IsWithinValid : Record → RowSpan → Type 0
IsWithinValid r span = IsValidSpot r (at span.row span.from) × IsValidSpot r (at span.row span.to) × (span.from ≤ span.to)

-- the row after each valid spot's is a u32, and so is the column after its own
abbrev pub IsNarrow : Record → Type 0
IsNarrow r = (s : Spot) → IsValidSpot r s → (s.row < 4294967295) × (s.col < 4294967295)
