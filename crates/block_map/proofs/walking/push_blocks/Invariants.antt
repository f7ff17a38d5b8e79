use Rattle.std.proofs.Common.{◌≡◌, ℕ, ◌+◌, ◌-◌, ◌*◌, ◌^◌, ◌<◌, ◌≤◌, ◌++◌, drop, length, map, take}
use Rattle.block_map.specs.Between.{block_row}
use Rattle.plain_rows.specs.ShownRows.{shown_rows}
use Rattle.block_map.specs.Stops.{texts_at}
use Rattle.block_map.proofs.walking.push_blocks.Given as goal

-- The rows up to the next one are there.
abbrev pub invariant-walk : goal.invariant-walk
invariant-walk l = record {
  begun : l.from ≤ l.next;
  within : l.next ≤ l.to;
  rows : shown_rows l.shown.items ≡ shown_rows l.fn.shown.items ++ map block_row (take (l.next - l.from) (drop l.from (texts_at l.text_row l.stops)));
  counted : l.fn.steps ≤ l.steps;
  steps : (h : ℕ) → length l.stops < 2 * 6 ^ (h + 1) → l.steps ≤ l.fn.steps + (h + 1) * (l.next - l.from);
}

abbrev pub decreases-walk : goal.decreases-walk
decreases-walk l = l.to - l.next
