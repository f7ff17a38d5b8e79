use Rattle.std.proofs.Common.{◌≡◌, ◌==◌, map, drop}
use Rattle.std.specs.List.{find}
use Rattle.plain_rows.specs.Plain.{fold_of}
use Rattle.display_sheet.proofs.folds.found.Given as goal

abbrev pub invariant-loop-fold : goal.invariant-loop-fold
invariant-loop-fold l = find (λ f. f.id == l.id) (map fold_of (drop l.fold-index l.folds)) ≡ find (λ f. f.id == l.id) (map fold_of l.folds)
