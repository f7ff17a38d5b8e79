use Rattle.std.proofs.Common.{◌≡◌, ◌++◌, ◌≤◌, ◌<◌, ◌-◌, ℕ, length}
use Rattle.plain_rows.specs.Plain.{record_of}
use Rattle.plain_rows.specs.Rows.{line_of_block}
use Rattle.plain_rows.specs.inside.BuiltRows.{block_at}
use Rattle.row_pieces.specs.Listed.{lists_of}
use Rattle.row_pieces.proofs.BuiltPieces.{walked}
use Rattle.row_pieces.proofs.rows.Blocks.push_at.Given as goal

abbrev pub invariant-walk : goal.invariant-walk
invariant-walk l = record {
  rows : lists_of l.rows.items ≡ lists_of l.initial.rows.items ++ walked (record_of l.self.plain.now) l.side l.line l.next;
  before : (k : ℕ) → k < l.next → (block_at (record_of l.self.plain.now) k).side ≡ l.side → line_of_block (record_of l.self.plain.now) (block_at (record_of l.self.plain.now) k) ≤ l.line;
  behind : (k : ℕ) → l.next ≤ k → k < length (record_of l.self.plain.now).blocks → (block_at (record_of l.self.plain.now) k).side ≡ l.side → l.line ≤ line_of_block (record_of l.self.plain.now) (block_at (record_of l.self.plain.now) k);
  within : l.next ≤ length (record_of l.self.plain.now).blocks;
}

abbrev pub decreases-walk : goal.decreases-walk
decreases-walk l = length (record_of l.self.plain.now).blocks - l.next
