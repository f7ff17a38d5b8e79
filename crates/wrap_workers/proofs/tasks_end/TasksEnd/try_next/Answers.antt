use Rattle.wrap_workers.proofs.Posting.{gets, were_posted}
use Rattle.wrap_workers.proofs.tasks_end.TasksEnd.try_next.Goals as goal

pub try_recv_as-requires-clause-rule : goal.try_recv_as-requires-clause-rule
try_recv_as-requires-clause-rule g c = (gets _ _, were_posted _ _)
