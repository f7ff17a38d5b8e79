use Rattle.std.proofs.Common.{◌≡◌, ◌≤◌, take}
use Rattle.kept_sheet.specs.Kept.{widths_of}
use Rattle.map_sheet.proofs.sheet.MapSheet.widths.Given as goal

abbrev pub invariant-loop-line : goal.invariant-loop-line
invariant-loop-line l = record {
  listed : l.widths.items ≡ take l.line (widths_of l.self);
  counted : l.initial.steps ≤ l.steps;
}
