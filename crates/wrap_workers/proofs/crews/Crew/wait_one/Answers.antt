use Rattle.std.proofs.Common.{ap, ◌∙◌, refl}
use Rattle.std.specs.Vec.{vec_capacity}
use Rattle.wrap_workers.specs.Finishes.{job_of}
use Rattle.wrap_workers.proofs.JobsOut.{crew_taken, crew_taken_off}
use Rattle.wrap_workers.proofs.crews.Crew.wait_one.Goals as goal

pub invariant_of-self : goal.invariant_of-self
invariant_of-self g c =
    let s = c.self.inside in
    let e = c.wait-finished.ensures in
    crew_taken s.tasks s.results s.kept.items s.count s.workers (vec_capacity s.kept) c.self.invariant
    c.wait-finished.new.self (job_of c.wait-finished.result) e.out e.end

pub returns-clause-some : goal.returns-clause-some
returns-clause-some g c =
    let s = c.self.inside in
    let e = c.wait-finished.ensures in
    crew_taken_off s.tasks s.results s.kept.items s.count s.workers (vec_capacity s.kept) c.self.invariant _ _ _ _
    e.out (ap (λ end. end.hand.out) e.end) (ap (λ crewed. crewed.out) c.self.view_is ∙ c.put_kept.ensures.out) refl
