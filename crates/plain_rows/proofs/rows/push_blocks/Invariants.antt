use Rattle.std.proofs.Common.{◌≡◌, ◌++◌, ◌≤◌, ◌<◌, ◌-◌, ℕ, length}
use Rattle.plain_rows.specs.Plain.{record_of}
use Rattle.plain_rows.specs.Rows.{line_of_block}
use Rattle.plain_rows.specs.inside.BuiltRows.{block_at}
use Rattle.plain_rows.proofs.BuiltRows.{walked}
use Rattle.plain_rows.proofs.rows.push_blocks.Given as goal

abbrev pub invariant-walk : goal.invariant-walk
invariant-walk l = record {
  rows : l.rows.items ≡ l.initial.rows.items ++ walked (record_of l.plain) l.side l.line l.next;
  before : (k : ℕ) → k < l.next → (block_at (record_of l.plain) k).side ≡ l.side → line_of_block (record_of l.plain) (block_at (record_of l.plain) k) ≤ l.line;
  behind : (k : ℕ) → l.next ≤ k → k < length (record_of l.plain).blocks → (block_at (record_of l.plain) k).side ≡ l.side → l.line ≤ line_of_block (record_of l.plain) (block_at (record_of l.plain) k);
  within : l.next ≤ length (record_of l.plain).blocks;
}

abbrev pub decreases-walk : goal.decreases-walk
decreases-walk l = length (record_of l.plain).blocks - l.next
