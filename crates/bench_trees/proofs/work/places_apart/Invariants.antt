use Rattle.std.proofs.Common.{◌≤◌}
use Rattle.bench_trees.proofs.work.places_apart.Given as goal

abbrev pub invariant-loop-at : goal.invariant-loop-at
invariant-loop-at l = l.apart ≤ l.at
