use Rattle.std.proofs.Common.{◌≡◌, ℕ, ◌-◌, ◌<◌, true}
use Rattle.row_pieces.specs.Pieces.{is_one}
use Rattle.row_pieces.specs.inside.Runs.{kind_of}
use Rattle.row_pieces.proofs.joining.run_end.Given as goal

abbrev pub invariant-loop-at : goal.invariant-loop-at
invariant-loop-at l = record {
  from : l.start < l.at;
  one : (k : ℕ) → l.start < k → k < l.at → is_one (kind_of l.bits (k - 1)) (kind_of l.bits k) ≡ true;
}
