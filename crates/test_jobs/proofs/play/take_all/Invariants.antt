use Rattle.test_jobs.specs.Out.{AreOut}
use Rattle.test_jobs.proofs.play.take_all.Given as goal

abbrev pub invariant-loop-step : goal.invariant-loop-step
invariant-loop-step g l = AreOut g.S.Held.Lines.elements_by_line l.display l.out.items
