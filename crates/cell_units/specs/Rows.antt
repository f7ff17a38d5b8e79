-- What is shown of rows: of each line the texts of its rows.
use Rattle.std.specs.Prelude.{ℕ, ◌≡◌, ◌+◌, ◌<◌, ◌≤◌, List, [], flat_map, length, take, slice_index_or, Option, Some, None}
use Rattle.std.specs.List.{All}

-- the rows of a line, each with its text
abbrev pub line_rows : List (List (List ℕ)) → ℕ → List (List ℕ)
line_rows lines line = slice_index_or lines line []

-- the rows of all lines
abbrev pub all_rows : List (List (List ℕ)) → List (List ℕ)
all_rows lines = flat_map (λ rows. rows) lines

-- how many rows are before a line
abbrev pub rows_before : List (List (List ℕ)) → ℕ → ℕ
rows_before lines line = length (all_rows (take line lines))

-- each line has a row
abbrev pub HaveRows : List (List (List ℕ)) → Type 0
HaveRows lines = All (λ rows. 1 ≤ length rows) lines

-- a row is so far in that line, or past the last row
abbrev pub IsLineAt : List (List (List ℕ)) → ℕ → Option (ℕ × ℕ) → Type 0
IsLineAt lines row None = length (all_rows lines) ≤ row
IsLineAt lines row (Some (line, k)) =
    (line < length lines) × (k < length (line_rows lines line)) × (rows_before lines line + k ≡ row)
