use Rattle.std.proofs.Common.{◌+◌, ◌++◌, take, drop, ap, arith, length}
use Rattle.bench_trees.proofs.Counted.{total-counted, length-replaced}
use Rattle.bench_trees.proofs.work.replace_one.Goals as goal

pub replace-requires-clause-fits : goal.replace-requires-clause-fits
replace-requires-clause-fits c =
    let new = take c.args.at c.args.tree.now ++ c.in_ok-items.items.items ++ drop (c.args.at + 1) c.args.tree.now in
    omega (arith, total-counted new, length-replaced c.args.tree.now c.in_ok-items.items.items c.args.at (omega (arith, c.if-at-len.true, c.len.ensures)) (omega (arith, c.in_ok-items.items.ok, ap length c.in_ok-items.ensures.items)), c.len.ensures)
