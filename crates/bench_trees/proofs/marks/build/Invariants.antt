use Rattle.std.proofs.Common.{◌≤◌, length}
use Rattle.bench_trees.proofs.Marked.{AreWithin}
use Rattle.bench_trees.proofs.marks.build.Given as goal

abbrev pub invariant-loop-id : goal.invariant-loop-id
invariant-loop-id l = record {
  few : length l.tree ≤ l.id;
  within : AreWithin 33554432 l.tree;
}
