-- How many steps a change of blocks takes at most beside one for each block, at a height h that no tree of blocks
-- exceeds.
use Rattle.std.specs.Prelude.{ℕ, ◌+◌, ◌*◌}

-- a block is put in its place, and then it alone is shown anew
abbrev pub adding : ℕ → ℕ
adding h = 1974 * (h + 1)

-- a block is taken out, and all others stay where they are
abbrev pub taking : ℕ → ℕ
taking h = 1428 * (h + 1)
