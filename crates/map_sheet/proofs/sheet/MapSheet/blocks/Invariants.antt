use Rattle.std.proofs.Common.{◌≤◌, ◌-◌, map}
use Rattle.plain_rows.specs.Plain.{block_of}
use Rattle.map_sheet.specs.Listed.{AreListed}
use Rattle.map_sheet.proofs.sheet.MapSheet.blocks.Given as goal

abbrev pub invariant-loop-listed : goal.invariant-loop-listed
invariant-loop-listed l = record {
  listed : AreListed l.self l.above (l.listed - l.above) (map block_of l.blocks.items);
  some : l.above ≤ l.listed;
  counted : l.initial.steps ≤ l.steps;
}
