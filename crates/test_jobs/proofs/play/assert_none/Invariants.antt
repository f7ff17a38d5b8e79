use Rattle.std.proofs.Common.{◌≢◌, All, take}
use Rattle.test_jobs.proofs.play.assert_none.Given as goal

abbrev pub invariant-loop-job : goal.invariant-loop-job
invariant-loop-job g l = All (λ job. job.number ≢ l.number) (take l.job-index l.out.items)
