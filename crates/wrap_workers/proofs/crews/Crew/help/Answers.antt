use Rattle.std.proofs.Common.{[], ◌∷◌, ◌++◌, ap, append-nil, ◌∙◌, refl, sym}
use Rattle.std.specs.Vec.{vec_capacity}
use Rattle.wrap_workers.proofs.JobsOut.{crew_put_back, crew_retired, crew_returned, crew_taken_off}
use Rattle.wrap_workers.proofs.crews.Crew.help.Goals as goal

pub invariant_of-self : goal.invariant_of-self
invariant_of-self g c =
    let s = c.self.inside in
    let e = c.do_here-finished.ensures in
    crew_retired s.tasks s.results s.kept.items s.count s.workers (vec_capacity s.kept) c.self.invariant c.do_here-finished.new.self c.in-Some.job
    c.pop.new.self.items (vec_capacity c.pop.new.self) e.out e.end c.in-Some.ensures.items c.in-Some.ensures.capacity

pub returns-in-Some-clause-some : goal.returns-in-Some-clause-some
returns-in-Some-clause-some g c =
    let s = c.self.inside in
    let e = c.do_here-finished.ensures in
    crew_taken_off s.tasks s.results s.kept.items s.count s.workers (vec_capacity s.kept) c.self.invariant _ _ _ _
    e.out (ap (λ end. end.hand.out) e.end) (ap (λ crewed. crewed.out) c.self.view_is) e.job

pub returns-in-Some-try_next-clause-some : goal.returns-in-Some-try_next-clause-some
returns-in-Some-try_next-clause-some g c =
    let s = c.self.inside in
    let room = vec_capacity s.kept in
    let job = c.in-Some-try_next.errand.job in
    let b = c.take_back-job.ensures in
    let e = c.do_here-finished-in-Some-try_next.ensures in
    let same = crew_put_back s.tasks s.results s.kept.items s.count s.workers room c.self.invariant c.try_next.new.self c.try_next.ensures.same in
    let back = crew_returned c.try_next.new.self s.results s.kept.items s.count s.workers room same c.take_back-job.new.self job
    (s.kept.items ++ job ∷ []) room b.end refl refl in
    crew_taken_off c.try_next.new.self c.take_back-job.new.self (s.kept.items ++ job ∷ []) s.count s.workers room back _ _ _ _
    e.out (ap (λ end. end.hand.out) e.end) (ap (λ end. end.hand.out) b.end ∙ ap (λ crewed. crewed.out) c.self.view_is) e.job

pub invariant_of-self-in-Some-try_next : goal.invariant_of-self-in-Some-try_next
invariant_of-self-in-Some-try_next g c =
    let s = c.self.inside in
    let room = vec_capacity s.kept in
    let job = c.in-Some-try_next.errand.job in
    let b = c.take_back-job.ensures in
    let e = c.do_here-finished-in-Some-try_next.ensures in
    let left = c.in_default.ensures.items ∙ append-nil c.pop.new.self.items in
    let same = crew_put_back s.tasks s.results s.kept.items s.count s.workers room c.self.invariant c.try_next.new.self c.try_next.ensures.same in
    let back = crew_returned c.try_next.new.self s.results s.kept.items s.count s.workers room same c.take_back-job.new.self job
    (s.kept.items ++ job ∷ []) room b.end refl refl in
    crew_retired c.try_next.new.self c.take_back-job.new.self (s.kept.items ++ job ∷ []) s.count s.workers room back
    c.do_here-finished-in-Some-try_next.new.self c.take_back-job.result c.pop.new.self.items (vec_capacity c.pop.new.self) e.out e.end
    (ap (λ kept. kept ++ job ∷ []) left ∙ ap (λ own. c.pop.new.self.items ++ own ∷ []) (sym b.job)) c.in_default.ensures.capacity
