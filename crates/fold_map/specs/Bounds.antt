-- How many steps calls on a layer with folds take at most. They are costs of a height h that the tree of the folds
-- can't exceed. There are no more splices than folds, so theirs can't either. Calls of the lower layer count on a
-- counter of their own.
use Rattle.std.specs.Prelude.{ℕ, ◌+◌, ◌*◌, ◌^◌, ◌<◌, ◌≤◌, ◌&&◌, nat_le, List, count_by, Option, Some, None}
use Rattle.cell_units.specs.Layers.{Source, unfolded}
use Rattle.cell_units.specs.Record.{Fold}
use Rattle.joined_folds.specs.Sweeps.{count_met}
use Rattle.edit_patch.specs.Leads.{Reach}
use Rattle.fold_map.specs.Synced.{end_after, folds_after, row_end_at, row_start_at}

-- A call may look at each of n folds twice, both times on a fifth as many nodes. It takes at most `cost h` steps beside
-- that.
abbrev pub SearchesTwice : (ℕ → ℕ) → ℕ → ℕ → ℕ → Type 0
SearchesTwice cost n old new = (h : ℕ) → n < 2 * 6 ^ (h + 1) → 5 * new ≤ 5 * old + (2 * n + 5 * cost h)

-- ---- how many folds a `sync` meets

-- those of which a replacement of the text meets a byte or an end, if there is one
abbrev pub touched : Option Reach → List Fold → ℕ
touched None folds = 0
touched (Some s) folds = count_by (λ f. nat_le f.start s.end && nat_le s.start f.end) folds

-- those that meet, once they are moved, the rows of the lines that a replacement of the lower layer's text meets
abbrev pub met_on_rows : Option Reach → Reach → Source → ℕ
met_on_rows shift below s =
    let layer = unfolded s in
    let end = end_after shift (row_end_at layer below.end) in
    count_met (row_start_at layer below.start) end (folds_after shift s.folds)

-- both of them, and none where nothing was replaced
abbrev pub folds_met : Option Reach → Option Reach → Source → ℕ
folds_met shift None s = 0
folds_met shift (Some below) s = touched shift s.folds + met_on_rows shift below s

-- ---- costs

-- k folds that a change meets are joined anew, and their splices put in the place of those that it met
abbrev pub rejoining : ℕ → ℕ → ℕ
rejoining k h = 250 * (k + 1) * (h + 1)

-- one fold is put among the others before, or taken from them
abbrev pub refolding : ℕ → ℕ → ℕ
refolding k h = 450 * (k + 1) * (h + 1)

-- and what it replaces of what is shown is looked up
abbrev pub folding : ℕ → ℕ → ℕ
folding k h = 463 * (k + 1) * (h + 1)

-- k folds that replacements meet are moved or joined anew, and what is replaced of what is shown is looked up
abbrev pub syncing : ℕ → ℕ → ℕ
syncing k h = 504 * (k + 1) * (h + 1)
