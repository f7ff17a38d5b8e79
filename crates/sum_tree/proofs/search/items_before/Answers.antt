use Rattle.std.proofs.Common.{◌∙◌, ap, sym, arith, not}
use Rattle.std.proofs.lemmas.List.Sums.{prefix_len-le-length}
use Rattle.sum_tree.proofs.Positions.{stops-at, goes_past}
use Rattle.sum_tree.proofs.search.items_before.Goals as goal

pub returns-then-passes : goal.returns-then-passes
returns-then-passes g c =
    let p = g.Q.Probe.is_passed c.args.probe.now in
    stops-at p c.args.items.now c.loop-index.index c.index-items-index.result c.loop-index.invariant.none
    (ap p (sym c.index-items-index.is) ∙ sym c.passes.ensures ∙ c.if-passes.true)

pub loop-index-preserved : goal.loop-index-preserved
loop-index-preserved g c =
    let p = g.Q.Probe.is_passed c.args.probe.now in
    record {
      none = goes_past p c.args.items.now c.loop-index.index c.index-items-index.result c.loop-index.invariant.none c.loop-index-test.true
          (ap p (sym c.index-items-index.is) ∙ sym c.passes.ensures ∙ c.if-passes.false);
    }

pub returns : goal.returns
returns g c =
    let p = g.Q.Probe.is_passed c.args.probe.now in
    omega (arith, c.loop-index-test.false, c.loop-index.invariant.none, prefix_len-le-length (λ x. not (p x)) c.args.items.now)
