use Rattle.std.proofs.Common.{◌≡◌, ℕ, ◌+◌, ◌-◌, ◌*◌, ◌≤◌, take, drop}
use Rattle.block_map.specs.Between.{rows_between}
use Rattle.block_map.specs.Bounds.{IsHeight}
use Rattle.plain_rows.specs.ShownRows.{shown_rows}
use Rattle.block_map.proofs.snapshot.BlockSnapshot.rows.Given as goal

-- The rows up to the next one are there.
abbrev pub invariant-walk : goal.invariant-walk
invariant-walk g l = record {
  begun : l.first ≤ l.next;
  within : l.next ≤ l.end;
  rows : shown_rows l.shown.items ≡ take (l.next - l.first) (drop l.first (rows_between l.self));
  counted : l.fn.steps ≤ l.steps;
  steps : (h : ℕ) → IsHeight h l.self → l.steps ≤ l.fn.steps + (67 * (h + 1)) * (l.next - l.first);
}

abbrev pub decreases-walk : goal.decreases-walk
decreases-walk g l = l.end - l.next
