use Rattle.std.proofs.Common.{◌≡◌}
use Rattle.test_stages.proofs.Runs.{cuts-between, places}
use Rattle.test_stages.proofs.cutting.wraps.Given as goal

abbrev pub invariant-loop-line : goal.invariant-loop-line
invariant-loop-line g l =
    places l.wraps.items
    ≡ cuts-between (g.N.Lines.elements_by_line l.lines) l.fn.run.first l.line l.width
