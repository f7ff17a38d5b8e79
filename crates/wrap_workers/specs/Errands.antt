-- Jobs with the rights to send their results.
use Rattle.std.specs.Prelude.{◌≡◌}
use Rattle.crossbeam_channel.specs.Claims.{Pass, view}
use Rattle.wrap_workers.specs.declared.job.Finished.{Finished}
use Rattle.wrap_workers.specs.declared.results.Hand.{Hand}
use Rattle.wrap_workers.specs.Jobs.{JobParts}
use Rattle.wrap_workers.specs.Owed.{right_of}

-- a pass of a queue of results
abbrev pub Right : Type 0 → Type 0
Right N = Pass (Finished N) (Hand N)

-- the pass has the right to send the result of this job
abbrev pub IsRightTo : {N : Type 0} → Right N → JobParts N → Type 0
IsRightTo right job = view right ≡ right_of (view right).serial job

-- what a contract sees of a job with its right
pub record ErrandParts (N : Type 0) : Type 0 where
  pub job : JobParts N
  pub right : Right N
