use Rattle.std.proofs.Common.{◌+◌, sym, subst, arith}
use Rattle.bench_trees.proofs.Marked.{AreWithin, within-moved, within-sorted}
use Rattle.bench_trees.proofs.marks.shift_each.Goals as goal

pub apply-requires : goal.apply-requires
apply-requires c =
    let turn = c.loop-turn.turn in
    record {
      fits = λ k d lt.
          omega (arith, within-moved (33554432 + turn) (33554432 + (turn + 1)) c.one_byte-shift.result c.loop-turn.tree (omega (arith, c.one_byte-shift.ensures.small)) c.loop-turn.invariant k d lt);
    }

pub loop-turn-preserved : goal.loop-turn-preserved
loop-turn-preserved c =
    let turn = c.loop-turn.turn in
    subst (AreWithin (33554432 + (turn + 1))) (sym c.in_ok-apply.ensures.ok)
    (within-sorted (33554432 + turn) (33554432 + (turn + 1)) c.one_byte-shift.result c.loop-turn.tree (omega (arith, c.one_byte-shift.ensures.small)) c.loop-turn.invariant)
