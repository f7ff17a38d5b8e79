use Rattle.wrap_workers.proofs.Posting.{joins}
use Rattle.wrap_workers.proofs.tasks_end.TasksEnd.join.Goals as goal

pub another-requires-clause-rule : goal.another-requires-clause-rule
another-requires-clause-rule g c = joins _ _ _ c.self.invariant.3.1
