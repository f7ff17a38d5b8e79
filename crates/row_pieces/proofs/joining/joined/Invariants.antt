use Rattle.std.proofs.Common.{◌≡◌, ◌-◌, ◌≤◌, ◌++◌, drop, length}
use Rattle.row_pieces.specs.Pieces.{joined}
use Rattle.row_pieces.proofs.joining.joined.Given as goal

abbrev pub invariant-runs : goal.invariant-runs
invariant-runs l = record {
  pieces : l.pieces.items ++ joined (drop l.start l.bits) ≡ joined l.bits;
  within : l.start ≤ length l.bits;
}

abbrev pub decreases-runs : goal.decreases-runs
decreases-runs l = length l.bits - l.start
