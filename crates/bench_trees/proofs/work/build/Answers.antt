use Rattle.std.proofs.Common.{arith}
use Rattle.bench_trees.proofs.Counted.{total-counted}
use Rattle.bench_trees.proofs.work.build.Goals as goal

pub from_vec-requires-clause-fits : goal.from_vec-requires-clause-fits
from_vec-requires-clause-fits c = omega (arith, total-counted c.loop-number.items.items, c.loop-number.invariant, c.loop-number.auto.number-end, c.ranges.count)
