use Rattle.std.proofs.Common.{arith}
use Rattle.test_stages.proofs.Runs.{cut-next}
use Rattle.test_stages.proofs.cutting.wraps.Goals as goal

pub loop-line-preserved : goal.loop-line-preserved
loop-line-preserved g c =
    let lines = g.N.Lines.elements_by_line c.args.lines.now in
    cut-next lines c.args.run.first c.loop-line.line c.args.width c.loop-line.wraps.items c.push.new.self.items c.in_ok-cuts.field-0
    (omega (arith, c.loop-line.auto.line)) (omega (arith, c.requires.within, c.loop-line-test.true))
    c.loop-line.invariant c.in_ok-push.ensures.items c.in_ok-cuts.ensures
