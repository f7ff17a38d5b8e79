-- The job of a result.
use Rattle.wrap_workers.specs.Jobs.{JobParts}
use Rattle.wrap_workers.specs.declared.job.Finished.{Finished}
use Rattle.wrap_workers.specs.declared.job.Finished.TheVariants.{Done, Short}

abbrev pub job_of : {N : Type 0} → Finished N → JobParts N
job_of (Done done) = done.job
job_of (Short job) = job
