-- The stops of blocks that are all shown.
use Rattle.std.specs.Prelude.{◌≡◌, ℕ, true, List, map, Option, Some, None}
use Rattle.std.specs.List.{All}
use Rattle.std.specs.Option.{is_some}
use Rattle.block_map.specs.Between.{Between}
use Rattle.block_map.specs.Maps.{BlockState, Kept}
use Rattle.block_map.specs.Stops.{Stop}

abbrev pub AreShown : List Kept → Type 0
AreShown ks = All (λ k. is_some k.row ≡ true) ks

-- the row, where there is one
abbrev pub row_or_none : Option ℕ → ℕ
row_or_none None = 0
row_or_none (Some row) = row

-- the stop of a block that is shown
abbrev pub shown_stop : Kept → Stop
shown_stop k = record { row = row_or_none k.row; lines = k.lines }

-- what is shown where all blocks are
abbrev pub shown_between : BlockState → Between
shown_between s = record {
  lines = s.lines;
  above = map shown_stop s.above;
  below = map shown_stop s.below;
}
