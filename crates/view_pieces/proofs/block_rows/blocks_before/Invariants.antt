-- Those before the lower end come before the line, and those from the upper end on don't.
use Rattle.std.proofs.Common.{◌≡◌, ℕ, ◌-◌, ◌<◌, ◌≤◌, true, false}
use Rattle.std.specs.Prelude.{slice_get}
use Rattle.map_sheet.specs.Listed.{side_blocks}
use Rattle.view_pieces.specs.inside.Blocks.{comes_before}
use Rattle.view_pieces.proofs.block_rows.blocks_before.Given as goal

abbrev pub invariant-search : goal.invariant-search
invariant-search l = record {
  order : l.low ≤ l.high;
  before : (k : ℕ) → k < l.low → comes_before l.sheet l.line (slice_get (side_blocks l.sheet l.side) k) ≡ true;
  others : (k : ℕ) → l.high ≤ k → comes_before l.sheet l.line (slice_get (side_blocks l.sheet l.side) k) ≡ false;
  counted : l.fn.steps ≤ l.steps;
}

abbrev pub decreases-search : goal.decreases-search
decreases-search l = l.high - l.low
