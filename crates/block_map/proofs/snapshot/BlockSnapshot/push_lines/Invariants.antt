use Rattle.std.proofs.Common.{◌≡◌, ◌-◌, ◌≤◌, ◌++◌, take, drop}
use Rattle.block_map.specs.Between.{rows_between}
use Rattle.plain_rows.specs.ShownRows.{shown_rows}
use Rattle.block_map.proofs.snapshot.BlockSnapshot.push_lines.Given as goal

-- The rows up to the next one are there.
abbrev pub invariant-lines : goal.invariant-lines
invariant-lines g l = record {
  begun : l.row ≤ l.next;
  within : l.next ≤ l.end;
  rows : shown_rows l.shown.items ≡ shown_rows l.fn.shown.items ++ take (l.next - l.row) (drop l.row (rows_between l.self));
}

abbrev pub decreases-lines : goal.decreases-lines
decreases-lines g l = l.end - l.next
