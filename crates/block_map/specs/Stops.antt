-- Where the rows of blocks are between rows of text.
use Rattle.std.specs.Prelude.{ℕ, ◌==◌, Bool, nat_le, nat_lt, List, length, filter, flat_map, sum_by}
use Rattle.cell_units.specs.declared.place.Bias.{Bias}
use Rattle.cell_units.specs.declared.place.Bias.TheVariants.{Left, Right}

-- the rows of a block, and how many rows of text are before them
pub record Stop : Type 0 where
  pub row : ℕ
  pub lines : List (List ℕ)

-- the texts of the stops after so many rows of text
abbrev pub texts_at : ℕ → List Stop → List (List ℕ)
texts_at row stops = flat_map (λ s. s.lines) (filter (λ s. s.row == row) stops)

-- A stop is before a place between rows of text by its row. At the place itself it is after it by Left, and before it
-- by Right.
abbrev pub stands_before : Bias → ℕ → Stop → Bool
stands_before Left row s = nat_lt s.row row
stands_before Right row s = nat_le s.row row

-- how many rows the stops have that are before a place
abbrev pub rows_upto : Bias → ℕ → List Stop → ℕ
rows_upto bias row stops = sum_by (λ s. length s.lines) (filter (stands_before bias row) stops)

-- how many rows all stops have
abbrev pub all_stop_rows : List Stop → ℕ
all_stop_rows stops = sum_by (λ s. length s.lines) stops
