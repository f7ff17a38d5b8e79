-- How many steps a call on stretches takes at most. There are no more stretches than lines. So each bound holds for
-- each h such that the lines are fewer than 2 * 6 ^ (h + 1).
use Rattle.std.specs.Prelude.{ℕ, ◌+◌, ◌*◌, List, length}
use Rattle.sum_tree.specs.Bounds.{ChangesAtMost, replacing, way}
use Rattle.wrap_map.specs.Stood.{Stood, put_in}
use Rattle.wrap_map.specs.inside.Stretches.{Stretched, spread}

-- two seeks
abbrev pub two_ways : ℕ → ℕ
two_ways h = 2 * way h

-- two seeks, and one replacement with k new stretches and a part of an old one on either side
abbrev pub putting : ℕ → ℕ → ℕ
putting k h = 2 * way h + replacing (k + 2) h

-- a call that puts stretches in the place of lines takes at most so many
abbrev pub PutsAtMost : ℕ → ℕ → List Stretched → List Stood → ℕ → ℕ → Type 0
PutsAtMost start end fresh lines old new =
    ChangesAtMost (putting (length fresh)) (length lines) (length (put_in start end (spread fresh) lines)) old new

-- a group of k lines is put in place
abbrev pub closing : ℕ → ℕ → ℕ
closing k h = putting k h

-- a line lands: of each line that waits in a group four steps are kept for its turn
abbrev pub grouping : ℕ → ℕ
grouping h = 170 * (h + 1)

-- n lines of a run are put, at most one by one
abbrev pub putting_run : ℕ → ℕ → ℕ
putting_run n h = 170 * (n + 1) * (h + 1)

-- a seek for each of n lines
abbrev pub each_way : ℕ → ℕ → ℕ
each_way n h = n * way h

-- a seek for each line of a run
abbrev pub looking : ℕ → ℕ
looking h = 128 * way h
