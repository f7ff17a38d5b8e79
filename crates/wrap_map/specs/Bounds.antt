-- How many steps a call on a map takes at most. They are costs of a height h for which its lines are fewer than 2 * 6 ^
-- (h + 1).
use Rattle.std.specs.Prelude.{ℕ, ◌+◌, ◌*◌, List, length}
use Rattle.sum_tree.specs.Bounds.{TakesAtMost, building}
use Rattle.cell_line.specs.MarkRuns.{runs_from}

-- a tree of one stretch
abbrev pub beginning : ℕ
beginning = building 1

-- one stretch is put in the place of others
abbrev pub syncing : ℕ → ℕ
syncing h = 170 * (h + 1)

-- the lines of n runs that are out are passed over, and those of the next run are looked at
abbrev pub finding : ℕ → ℕ → ℕ
finding n h = 130 * (n + 1) * (h + 1)

-- n lines are put in one row each, and then in place, at most one by one
abbrev pub landing : ℕ → ℕ → ℕ
landing n h = 340 * (n + 1) * (h + 1)

-- the runs of one mark other than 0 are listed: five seeks for each, and for the end
abbrev pub listing : List ℕ → ℕ → ℕ
listing marks h = 5 * (length (runs_from 0 marks) + 1) * (h + 1)

-- so many steps list the runs of these marks
abbrev pub ListsAtMost : List ℕ → ℕ → ℕ → Type 0
ListsAtMost marks old new = TakesAtMost (listing marks) (length marks) old new
