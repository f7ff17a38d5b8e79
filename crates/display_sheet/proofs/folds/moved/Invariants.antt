use Rattle.std.proofs.Common.{◌≡◌, map, reverse, drop}
use Rattle.std.specs.List.{filter}
use Rattle.std.specs.Prelude.{nat_lt}
use Rattle.cell_units.specs.Record.{fold_le}
use Rattle.cell_units.specs.Sorting.{sort_by}
use Rattle.cell_units.specs.Operation.{move_fold}
use Rattle.plain_rows.specs.Plain.{fold_of}
use Rattle.display_sheet.proofs.folds.moved.Given as goal

abbrev pub invariant-loop-i : goal.invariant-loop-i
invariant-loop-i l =
    map fold_of (reverse l.moved.items) ≡ sort_by fold_le (filter (λ f. nat_lt f.start f.end) (map (λ z. move_fold l.shift.start l.shift.end l.shift.count (fold_of z)) (drop l.i l.folds)))
