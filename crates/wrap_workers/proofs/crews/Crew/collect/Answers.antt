use Rattle.std.proofs.Common.{ap, refl, subst}
use Rattle.std.specs.Vec.{vec_capacity}
use Rattle.crossbeam_channel.specs.Fifo.{Held}
use Rattle.wrap_workers.specs.Finishes.{job_of}
use Rattle.wrap_workers.specs.Owed.{WereOwed}
use Rattle.wrap_workers.proofs.JobsOut.{crew_taken, crew_taken_off}
use Rattle.wrap_workers.proofs.crews.Crew.collect.Goals as goal

pub invariant_of-self-in-Some : goal.invariant_of-self-in-Some
invariant_of-self-in-Some g c =
    let s = c.self.inside in
    let e = c.in-Some.ensures in
    crew_taken s.tasks s.results s.kept.items s.count s.workers (vec_capacity s.kept) c.self.invariant
    c.take.new.self (job_of c.in-Some.finished) e.out e.some

pub returns-in-None-clause-empty : goal.returns-in-None-clause-empty
returns-in-None-clause-empty g c =
    subst (λ out. Held 0 (λ results. WereOwed out results)) (ap (λ crewed. crewed.out) c.self.view_is) c.in-None.ensures.empty

pub returns-in-Some-clause-some : goal.returns-in-Some-clause-some
returns-in-Some-clause-some g c =
    let s = c.self.inside in
    let e = c.in-Some.ensures in
    crew_taken_off s.tasks s.results s.kept.items s.count s.workers (vec_capacity s.kept) c.self.invariant _ _ _ _
    e.out (ap (λ end. end.hand.out) e.some) (ap (λ crewed. crewed.out) c.self.view_is) refl
