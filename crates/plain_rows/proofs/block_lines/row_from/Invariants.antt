use Rattle.std.proofs.Common.{◌≤◌, ◌-◌}
use Rattle.plain_rows.specs.inside.BlockRows.{IsRow}
use Rattle.plain_rows.proofs.block_lines.row_from.Given as goal

abbrev pub invariant-loop-row : goal.invariant-loop-row
invariant-loop-row l = record {
  row : IsRow l.text l.row.start l.row.end;
  behind : l.row.start ≤ l.offset;
}

abbrev pub decreases-loop-row : goal.decreases-loop-row
decreases-loop-row l = l.offset - l.row.end
