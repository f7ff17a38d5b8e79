use Rattle.wrap_workers.proofs.Posting.{serves, were_posted}
use Rattle.wrap_workers.proofs.worker.next.Goals as goal

pub recv_as-requires-clause-rule : goal.recv_as-requires-clause-rule
recv_as-requires-clause-rule g c = (serves _ _ _ c.requires.worker c.requires.known.1, were_posted _ _)
