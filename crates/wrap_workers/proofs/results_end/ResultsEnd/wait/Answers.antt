use Rattle.std.proofs.Common.{subst}
use Rattle.std.specs.Prelude.{Contains}
use Rattle.wrap_workers.specs.Finishes.{job_of}
use Rattle.wrap_workers.proofs.results_end.ResultsEnd.wait.Goals as goal

pub returns-in-Some-next-clause-out : goal.returns-in-Some-next-clause-out
returns-in-Some-next-clause-out g c =
    subst (λ end. Contains end.hand.out (job_of c.in-Some-next.finished)) c.loop.invariant c.in-Some-next.ensures.out
