use Rattle.std.proofs.Common.{◌≡◌}
use Rattle.wrap_workers.specs.Jobs.{places_of}
use Rattle.wrap_workers.proofs.Runs.{cuts_between}
use Rattle.wrap_workers.proofs.wrap.wraps.Given as goal

abbrev pub invariant-loop-line : goal.invariant-loop-line
invariant-loop-line g l =
    places_of l.wraps.items
    ≡ cuts_between (g.N.Lines.elements_by_line l.job.lines) l.job.run.first l.line l.job.width
