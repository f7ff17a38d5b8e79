-- Where an offset cuts a list of joined folds.
use Rattle.std.specs.Prelude.{ℕ, ◌≡◌, ◌+◌, ◌<◌, ◌≤◌, List, length, take, drop, slice_get}
use Rattle.std.specs.List.{All}
use Rattle.joined_folds.specs.declared.joined_fold.JoinedFold.{JoinedFold}
use Rattle.joined_folds.specs.JoinedLists.{joined_fold, last_end}
use Rattle.sum_core.specs.declared.load.NoLoad.{NoLoad}
use Rattle.splice_tree.specs.Splices.{Piece}
use Rattle.fold_map.specs.declared.amount.Amount.{Amount}
use Rattle.fold_map.specs.declared.cut.Cut.{Cut}

-- Those before the index end by the offset, and the others after it.
pub record IsCut (js : List JoinedFold) (offset : ℕ) (cut : Cut) : Type 0 where
  pub within : cut.index ≤ length js
  pub ended : All (λ j. j.end ≤ offset) (take cut.index js)
  pub rest : All (λ j. offset < j.end) (drop cut.index js)
  pub base : cut.base ≡ last_end 0 (take cut.index js)
  pub next : cut.next ≡ slice_get js cut.index

-- the joined fold of a splice after an offset
abbrev pub joined_behind : ℕ → Piece Amount NoLoad → JoinedFold
joined_behind base p = joined_fold (base + p.gap.buffer) (base + p.gap.buffer + p.old.buffer)
