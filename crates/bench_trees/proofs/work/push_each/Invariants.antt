use Rattle.std.proofs.Common.{◌≡◌, length}
use Rattle.bench_trees.proofs.work.push_each.Given as goal

abbrev pub invariant-loop-number : goal.invariant-loop-number
invariant-loop-number l = length l.tree ≡ l.number
