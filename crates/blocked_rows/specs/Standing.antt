-- Blocks of a layer, each at its line.
use Rattle.std.specs.Prelude.{ℕ, ◌≡◌, ◌+◌, ◌≤◌, ◌^◌, List, length, Some}
use Rattle.std.specs.List.{All}
use Rattle.cell_units.specs.declared.limits.TheConstants.{BLOCK_LINES_LIMIT, ENTRY_LIMIT}
use Rattle.cell_units.specs.declared.place.Side.{Side}
use Rattle.cell_units.specs.declared.place.Side.TheVariants.{Above, Below}
use Rattle.cell_units.specs.Layers.{Source, shown_lines}
use Rattle.cell_units.specs.Rows.{all_rows}
use Rattle.cell_units.specs.Text.{IsBoundary}
use Rattle.block_map.specs.Between.{Between}
use Rattle.block_map.specs.Maps.{BlockState, Kept, added, fresh, placed, row_of_kept}
use Rattle.block_map.specs.inside.ShownStops.{AreShown, shown_between}

-- A block of a layer: its anchor is a boundary, and where it is shown it is at its line.
pub record IsBlockOf (source : Source) (lines : List (List (List ℕ))) (side : Side) (k : Kept) : Type 0 where
  pub anchor : IsBoundary source.text k.offset
  pub shown : (row : ℕ) → k.row ≡ Some row → row ≡ row_of_kept source lines side k
  pub few : length k.lines ≤ BLOCK_LINES_LIMIT

-- The blocks are those of a layer, between the rows of its lines. The rows are few enough for all blocks that there may
-- be.
pub record ArePlaced (source : Source) (s : BlockState) : Type 0 where
  pub equal : length (shown_lines source) ≡ length s.lines
  pub above : All (IsBlockOf source s.lines Above) s.above
  pub below : All (IsBlockOf source s.lines Below) s.below
  pub few : length s.above + length s.below ≤ ENTRY_LIMIT
  pub room : length (all_rows s.lines) ≤ 2 ^ 31

-- All blocks are shown, between these lines.
pub record ShowsAll (lines : List (List (List ℕ))) (s : BlockState) (shown : Between) : Type 0 where
  pub lines_are : s.lines ≡ lines
  pub above : AreShown s.above
  pub below : AreShown s.below
  pub shown_is : shown ≡ shown_between s

-- the blocks with one more, which is shown at its line
abbrev pub with_block : Source → Side → ℕ → ℕ → List (List ℕ) → BlockState → BlockState
with_block source side id offset lines s = added side (placed source s.lines side (fresh id offset lines)) s
