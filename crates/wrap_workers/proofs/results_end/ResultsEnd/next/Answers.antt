use Rattle.std.proofs.Common.{subst}
use Rattle.std.specs.Prelude.{Contains}
use Rattle.wrap_workers.specs.Finishes.{job_of}
use Rattle.wrap_workers.proofs.Owing.{takes, was_owed}
use Rattle.wrap_workers.proofs.results_end.ResultsEnd.next.Goals as goal

pub recv_as-requires-clause-rule : goal.recv_as-requires-clause-rule
recv_as-requires-clause-rule g c = (takes _ _ c.self.invariant.2, was_owed _ _ c.self.invariant.2)

pub returns-in-Ok-clause-out : goal.returns-in-Ok-clause-out
returns-in-Ok-clause-out g c =
    subst (λ end. Contains end.hand.out (job_of c.in-Ok.front)) c.self.view_is c.in-Ok.ensures.rule.1
