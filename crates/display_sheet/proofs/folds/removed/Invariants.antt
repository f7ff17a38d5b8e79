use Rattle.std.proofs.Common.{◌≡◌, ◌==◌, not, map, take}
use Rattle.std.specs.List.{filter}
use Rattle.plain_rows.specs.Plain.{fold_of}
use Rattle.display_sheet.proofs.folds.removed.Given as goal

abbrev pub invariant-loop-fold : goal.invariant-loop-fold
invariant-loop-fold l = map fold_of l.left.items ≡ filter (λ f. not (f.id == l.id)) (map fold_of (take l.fold-index l.folds))
