use Rattle.wrap_workers.proofs.Owing.{sends}
use Rattle.wrap_workers.proofs.worker.send.Goals as goal

pub send_as-requires-clause-rule : goal.send_as-requires-clause-rule
send_as-requires-clause-rule g c = (sends _ _ _ _ c.requires.owns, λ items views _ _. tt)
