-- Rows of lines with blocks between them, as a block snapshot is seen.
use Rattle.std.specs.Prelude.{◌≡◌, ◌≢◌, ℕ, ◌+◌, ◌<◌, ◌≤◌, List, flat_map, length, map, take, Option, Some, None}
use Rattle.cell_units.specs.Rows.{line_rows, rows_before}
use Rattle.plain_rows.specs.Rows.{Row, block_kind, head_and_more, with_blocks}
use Rattle.block_map.specs.Stops.{Stop, texts_at}

-- Of each line the texts of its rows, and the stops of the blocks above lines and of those below lines.
pub record Between : Type 0 where
  pub lines : List (List (List ℕ))
  pub above : List Stop
  pub below : List Stop

abbrev pub block_row : List ℕ → Row
block_row text = record { kind = block_kind; text = text }

-- the rows above a line: those of the stops before its first row
abbrev pub rows_above : Between → ℕ → List Row
rows_above b line = map block_row (texts_at (rows_before b.lines line) b.above)

-- the rows below a line: those of the stops after its last row
abbrev pub rows_below : Between → ℕ → List Row
rows_below b line = map block_row (texts_at (rows_before b.lines (line + 1)) b.below)

-- the rows of each line with those above and below it
abbrev pub rows_by_line : Between → List (List Row)
rows_by_line b = with_blocks (rows_above b) (rows_below b) (map head_and_more b.lines)

-- all rows, in order
abbrev pub rows_between : Between → List Row
rows_between b = flat_map (λ rows. rows) (rows_by_line b)

-- how many rows all lines before one have, with those above and below them
abbrev pub rows_to : ℕ → List (List Row) → ℕ
rows_to line lines = length (flat_map (λ rows. rows) (take line lines))

-- ---- rows of text among them

-- the row at which a text row of a line is
abbrev pub place_of_row : Between → ℕ → ℕ → ℕ
place_of_row b line k = rows_to line (rows_by_line b) + (length (rows_above b line) + k)

-- the line and the text row in it that are at a row, or none where no text row is
abbrev pub IsTextAt : Between → ℕ → Option (ℕ × ℕ) → Type 0
IsTextAt b row None =
    (line k : ℕ) → line < length b.lines → k < length (line_rows b.lines line) → place_of_row b line k ≢ row
IsTextAt b row (Some (line, k)) =
    (line < length b.lines) × (k < length (line_rows b.lines line)) × (place_of_row b line k ≡ row)

-- the last line of which the text rows begin at or before a row, or the first line
pub record IsLastBegun (b : Between) (row line : ℕ) : Type 0 where
  pub within : line < length b.lines
  pub begun : 0 < line → place_of_row b line 0 ≤ row
  pub behind : (l : ℕ) → line < l → l < length b.lines → row < place_of_row b l 0
