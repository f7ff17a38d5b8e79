use Rattle.std.proofs.Common.{◌≡◌, take}
use Rattle.joined_folds.specs.JoinedLists.{last_end}
use Rattle.fold_map.proofs.changed.last_end.Given as goal

abbrev pub invariant-loop-one : goal.invariant-loop-one
invariant-loop-one l = l.end ≡ last_end l.base (take l.one-index l.joined)
