use Rattle.std.proofs.Common.{◌≡◌, ◌≤◌, map, take}
use Rattle.plain_rows.specs.Plain.{fold_of}
use Rattle.map_sheet.proofs.sheet.MapSheet.folds.Given as goal

abbrev pub invariant-loop-at : goal.invariant-loop-at
invariant-loop-at l = record {
  listed : map fold_of l.folds.items ≡ take l.at l.layer.folds;
  counted : l.initial.steps ≤ l.steps;
}
