use Rattle.std.proofs.Common.{◌≡◌, ◌≤◌, ◌<◌, ◌-◌, ℕ, length}
use Rattle.plain_rows.specs.Rows.{line_of_block}
use Rattle.plain_rows.specs.inside.BuiltRows.{block_at}
use Rattle.plain_rows.proofs.BuiltRows.{walked}
use Rattle.display_sheet.specs.Windows.{HasPassed}
use Rattle.display_sheet.proofs.sheet.Sheet.pass_blocks.Given as goal

abbrev pub invariant-walk : goal.invariant-walk
invariant-walk l = record {
  rows : HasPassed (walked l.self l.side l.line l.next) l.initial.window l.window;
  before : (k : ℕ) → k < l.next → (block_at l.self k).side ≡ l.side → line_of_block l.self (block_at l.self k) ≤ l.line;
  behind : (k : ℕ) → l.next ≤ k → k < length l.self.blocks → (block_at l.self k).side ≡ l.side → l.line ≤ line_of_block l.self (block_at l.self k);
  within : l.next ≤ length l.self.blocks;
}

abbrev pub decreases-walk : goal.decreases-walk
decreases-walk l = length l.self.blocks - l.next
