-- Rows among blocks in zones. A zone is a row of text, the rows of blocks before it that are above its line, and those
-- after it that are below.
use Rattle.std.specs.Prelude.{◌≡◌, ℕ, ◌+◌, ◌<◌, ◌^◌, ◌==◌, if◌then◌else◌, List, [], ◌∷◌, ◌++◌, flat_map, length, map, slice_index_or}
use Rattle.std.specs.List.{All}
use Rattle.cell_units.specs.declared.place.Bias.TheVariants.{Left, Right}
use Rattle.cell_units.specs.Rows.{HaveRows, all_rows, rows_before}
use Rattle.plain_rows.specs.Rows.{Row, head_and_more, head_kind, more_kind}
use Rattle.block_map.specs.Between.{Between, block_row}
use Rattle.block_map.specs.Stops.{Stop, all_stop_rows, rows_upto, texts_at}

-- the rows of text of all lines
abbrev pub text_rows : List (List (List ℕ)) → List Row
text_rows lines = flat_map head_and_more lines

abbrev pub text_row : Between → ℕ → Row
text_row b t = slice_index_or (text_rows b.lines) t (block_row [])

-- a text row of that number in its line
abbrev pub text_of_kind : ℕ → List ℕ → Row
text_of_kind k text = record { kind = (if k == 0 then head_kind else more_kind); text = text }

-- the text rows of a line from one on
abbrev pub texts_of_kinds : ℕ → List (List ℕ) → List Row
texts_of_kinds k [] = []
texts_of_kinds k (text ∷ texts) = text_of_kind k text ∷ texts_of_kinds (k + 1) texts

abbrev pub zone : Between → ℕ → List Row
zone b t =
    map block_row (texts_at t b.above) ++ (text_row b t ∷ map block_row (texts_at (t + 1) b.below))

-- how many rows are before a zone
abbrev pub zone_start : Between → ℕ → ℕ
zone_start b t = t + (rows_upto Left t b.above + rows_upto Right t b.below)

-- the zone of a row, and which of the zone's rows it is
pub record IsInZone (b : Between) (row t at : ℕ) : Type 0 where
  pub there : t < length (all_rows b.lines)
  pub start : zone_start b t + at ≡ row
  pub end : row < zone_start b (t + 1)

-- no stop is between the text rows from one up to another
abbrev pub IsClear : Between → ℕ → ℕ → Type 0
IsClear b from to =
    (t : ℕ) → from < t → t < to → (texts_at t b.above ≡ []) × (texts_at t b.below ≡ [])

-- a stop is before the first row of a line
abbrev pub IsAboveLine : List (List (List ℕ)) → Stop → Type 0
IsAboveLine lines s = (line : ℕ) × (line < length lines) × (s.row ≡ rows_before lines line)

-- a stop is after the last row of a line
abbrev pub IsBelowLine : List (List (List ℕ)) → Stop → Type 0
IsBelowLine lines s = (line : ℕ) × (line < length lines) × (s.row ≡ rows_before lines (line + 1))

-- What a block snapshot keeps: each line has a row, stops are between lines, and all rows together are a u32.
pub record IsBetween (b : Between) : Type 0 where
  pub rows : HaveRows b.lines
  pub above : All (IsAboveLine b.lines) b.above
  pub below : All (IsBelowLine b.lines) b.below
  pub fits : length (all_rows b.lines) + (all_stop_rows b.above + all_stop_rows b.below) < 2 ^ 32
