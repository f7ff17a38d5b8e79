use Rattle.wrap_workers.proofs.Owing.{owed_begins}
use Rattle.wrap_workers.proofs.results_end.ResultsEnd.open.Goals as goal

pub bounded_with-requires-clause-rule : goal.bounded_with-requires-clause-rule
bounded_with-requires-clause-rule g c = owed_begins
