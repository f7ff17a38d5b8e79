use Rattle.std.proofs.Common.{◌++◌, ◌∷◌, [], arith, length-append}
use Rattle.bench_trees.proofs.Counted.{total-counted}
use Rattle.bench_trees.proofs.work.push_each.Goals as goal

pub push-requires-clause-fits : goal.push-requires-clause-fits
push-requires-clause-fits c =
    let more = c.loop-number.tree ++ (record { 0 = c.loop-number.number }) ∷ [] in
    omega (arith, total-counted more, length-append c.loop-number.tree ((record { 0 = c.loop-number.number }) ∷ []), c.loop-number.invariant, c.loop-number-test.true, c.ranges.count)
