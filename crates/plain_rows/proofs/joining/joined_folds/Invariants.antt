use Rattle.std.proofs.Common.{◌≡◌, ◌++◌, drop}
use Rattle.plain_rows.proofs.JoinedFolds.{joined_from}
use Rattle.plain_rows.proofs.joining.joined_folds.Given as goal

-- the joined folds of the rest follow
abbrev pub invariant-loop-fold : goal.invariant-loop-fold
invariant-loop-fold l =
    l.joined.items ++ joined_from l.start l.end (drop l.fold-index l.folds) ≡ joined_from l.initial.start l.initial.end l.folds
