-- Points of a text, and the offsets at them.
use Rattle.std.specs.Prelude.{ℕ, ◌≡◌, ◌+◌, ◌<◌, ◌≤◌, nat_lt, nat_le, if◌then◌else◌, List, length}
use Rattle.cell_units.specs.declared.place.Bias.{Bias}
use Rattle.cell_units.specs.declared.place.Bias.TheVariants.{Left, Right}
use Rattle.cell_units.specs.declared.place.Point.{Point}
use Rattle.cell_units.specs.Text.{IsBoundary, character_end, character_start}
use Rattle.cell_units.specs.Record.{line_count}
use Rattle.cell_units.specs.BufferLines.{line_end, line_start}

-- the offset itself where it is a boundary; inside a character that character's start (Left) or end (Right)
abbrev pub near_boundary : List ℕ → ℕ → Bias → ℕ
near_boundary text o Left = character_start text o
near_boundary text o Right = character_end text o

-- past the last row it is the text's end, and past a row's end that end. Else it is as far in the row as the column
-- says
abbrev pub offset_at : List ℕ → Point → Bias → ℕ
offset_at text p bias =
    let o = line_start text p.row + p.column in
    if nat_le (line_count text) p.row then length text
    else if nat_lt (line_end text p.row) o then line_end text p.row
    else near_boundary text o bias

-- ---- the same in other words

-- the last boundary at the offset or before it
pub record IsLastBoundary (text : List ℕ) (o r : ℕ) : Type 0 where
  pub boundary : IsBoundary text r
  pub order : r ≤ o
  pub nearest : (i : ℕ) → r < i → i ≤ o → ¬ IsBoundary text i

-- the first boundary at the offset or after it
pub record IsFirstBoundary (text : List ℕ) (o r : ℕ) : Type 0 where
  pub boundary : IsBoundary text r
  pub order : o ≤ r
  pub nearest : (i : ℕ) → o ≤ i → i < r → ¬ IsBoundary text i

abbrev pub IsNearBoundary : List ℕ → ℕ → Bias → ℕ → Type 0
IsNearBoundary text o Left r = IsLastBoundary text o r
IsNearBoundary text o Right r = IsFirstBoundary text o r

-- r is the offset at the point
pub record IsAtPoint (text : List ℕ) (p : Point) (bias : Bias) (r : ℕ) : Type 0 where
  -- past the last row it is the text's end
  pub past_rows : line_count text ≤ p.row → r ≡ length text
  -- past a row's end it is that end
  pub past_end : p.row < line_count text → line_end text p.row < line_start text p.row + p.column → r ≡ line_end text p.row
  -- else it is as far in the row as the column says, but not inside a character
  pub in_row : p.row < line_count text → line_start text p.row + p.column ≤ line_end text p.row →
      IsNearBoundary text (line_start text p.row + p.column) bias r
