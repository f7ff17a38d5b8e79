use Rattle.std.proofs.Common.{ℕ, ◌≢◌, All, subst}
use Rattle.wrap_workers.specs.Jobs.{JobParts}
use Rattle.test_jobs.proofs.OutJobs.{others_stay, without_one}
use Rattle.test_jobs.proofs.play.land_numbered.Goals as goal

pub returns : goal.returns
returns g c =
    let elements = g.S.Held.Lines.elements_by_line in
    let before = c.args.display.now in
    let left = c.remove-job.new.self.items in
    let apart : All (λ (other : JobParts g.row.S-Held.Denot). other.number ≢ c.remove-job.result.number) left
    = subst (λ (n : ℕ). All (λ (other : JobParts g.row.S-Held.Denot). other.number ≢ n) left) c.number.ensures c.assert_none.ensures in
    others_stay elements before c.land.new.display left c.remove-job.result.number c.in_ok-land.ensures c.job_laws.ensures.stays apart
    (without_one elements before c.args.out.now.items left c.in-Some.at c.remove-job.ensures.items c.requires)
