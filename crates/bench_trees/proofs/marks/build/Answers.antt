use Rattle.std.proofs.Common.{ap, sym, subst, length, arith}
use Rattle.mark_tree.specs.Marks.{mark_le}
use Rattle.mark_tree.proofs.Sorting.{length-insert}
use Rattle.bench_trees.proofs.Marked.{AreWithin, within-added}
use Rattle.bench_trees.proofs.marks.build.Goals as goal

pub loop-id-preserved : goal.loop-id-preserved
loop-id-preserved c =
    let added = c.in_ok-insert.ensures.ok in
    record {
      few = omega (arith, ap length added, length-insert mark_le c.random_mark-mark.result c.loop-id.tree, c.loop-id.invariant.few);
      within = subst (AreWithin 33554432) (sym added) (within-added 33554432 c.random_mark-mark.result c.loop-id.tree c.random_mark-mark.ensures c.loop-id.invariant.within);
    }
