use Rattle.wrap_workers.proofs.RightsApart.{gives_once, jobs_apart, of_job_out, passes_of_their_own}
use Rattle.wrap_workers.proofs.laws.queue_laws.Goals as goal

pub returns-clause-once : goal.returns-clause-once
returns-clause-once g c = gives_once

pub returns-clause-out : goal.returns-clause-out
returns-clause-out g c = of_job_out

pub returns-clause-rights : goal.returns-clause-rights
returns-clause-rights g c = passes_of_their_own

pub returns-clause-serials : goal.returns-clause-serials
returns-clause-serials g c = λ tasks posts o. o.4.0

pub returns-clause-tasks : goal.returns-clause-tasks
returns-clause-tasks g c = jobs_apart
