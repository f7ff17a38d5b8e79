use Rattle.std.proofs.Common.{ap}
use Rattle.wrap_workers.proofs.Owing.{returns, counts}
use Rattle.wrap_workers.proofs.results_end.ResultsEnd.take_back.Goals as goal

pub absorb-requires-clause-rule : goal.absorb-requires-clause-rule
absorb-requires-clause-rule g c = returns _ _ _ _ c.self.invariant.2

pub learn_as-requires-clause-rule : goal.learn_as-requires-clause-rule
learn_as-requires-clause-rule g c = counts _ _ (ap (λ v. v.crew) c.absorb.ensures.rule)
