use Rattle.std.proofs.Common.{◌≡◌, ◌≤◌, map, take}
use Rattle.plain_rows.specs.Plain.{inlay_of}
use Rattle.map_sheet.proofs.sheet.MapSheet.inlays.Given as goal

abbrev pub invariant-loop-at : goal.invariant-loop-at
invariant-loop-at l = record {
  listed : map inlay_of l.inlays.items ≡ take l.at l.inlaid.inlays;
  counted : l.initial.steps ≤ l.steps;
}
