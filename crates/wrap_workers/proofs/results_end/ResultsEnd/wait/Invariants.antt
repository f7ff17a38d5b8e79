use Rattle.std.proofs.Common.{◌≡◌}
use Rattle.wrap_workers.proofs.results_end.ResultsEnd.wait.Given as goal

abbrev pub invariant-loop : goal.invariant-loop
invariant-loop g l = l.self ≡ l.initial.self
