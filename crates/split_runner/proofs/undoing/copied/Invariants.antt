-- The entries so far are copied.
use Rattle.std.proofs.Common.{◌≡◌, length, take}
use Rattle.std.specs.Prelude.{vec_len}
use Rattle.std.specs.Vec.{vec_capacity}
use Rattle.split_runner.proofs.undoing.copied.Given as goal

abbrev pub invariant-loop-splice : goal.invariant-loop-splice
invariant-loop-splice l = record {
  same : l.copy.items ≡ take l.splice-index l.batch;
  len : vec_len l.copy ≡ l.splice-index;
  room : vec_capacity l.copy ≡ length l.batch;
}
