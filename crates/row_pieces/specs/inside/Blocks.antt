-- Lines of blocks.
use Rattle.std.specs.Prelude.{ℕ, ◌≤◌, List, length}
use Rattle.cell_units.specs.declared.limits.TheConstants.{BLOCK_LINE_LIMIT}

-- a line that a block may have
abbrev pub IsShort : List ℕ → Type 0
IsShort line = length line ≤ BLOCK_LINE_LIMIT
