use Rattle.std.proofs.Common.{◌+◌, [], ◌∷◌, ◌++◌, ap, ◌∙◌, sym, subst, arith}
use Rattle.std.specs.Vec.{vec_capacity}
use Rattle.wrap_workers.specs.Jobs.{IsFree}
use Rattle.wrap_workers.proofs.JobsOut.{crew_hired, crew_put, crew_put_back, crew_returned}
use Rattle.wrap_workers.proofs.Weights.{free-times}
use Rattle.wrap_workers.proofs.crews.Crew.hand_out.Goals as goal

pub hire-errand-requires-clause-new : goal.hire-errand-requires-clause-new
hire-errand-requires-clause-new g c = λ _ _.
    free-times _ _ (subst (λ crewed. IsFree c.args.job.number crewed.out) (sym c.self.view_is) c.requires)

pub invariant_of-self : goal.invariant_of-self
invariant_of-self g c =
    let s = c.self.inside in
    let room = vec_capacity s.kept in
    let hired = c.hire-errand.new.self in
    let new = free-times _ _ (subst (λ crewed. IsFree c.args.job.number crewed.out) (sym c.self.view_is) c.requires) in
    let out = crew_hired s.tasks s.results s.kept.items s.count s.workers room c.self.invariant hired c.args.job c.if-self.false new c.hire-errand.ensures.end in
    let back = crew_put_back s.tasks hired s.kept.items (s.count + 1) s.workers room out c.put_errand.new.self c.in-Some.ensures.1 in
    let pushed = c.push_reserved.ensures.items ∙ ap (λ job. s.kept.items ++ job ∷ []) c.take_back-job.ensures.job in
    crew_returned c.put_errand.new.self hired s.kept.items (s.count + 1) s.workers room back c.take_back-job.new.self c.in-Some.back.job
    c.push_reserved.new.self.items (vec_capacity c.push_reserved.new.self) c.take_back-job.ensures.end pushed c.push_reserved.ensures.capacity

pub invariant_of-self-in_default : goal.invariant_of-self-in_default
invariant_of-self-in_default g c =
    let s = c.self.inside in
    let room = vec_capacity s.kept in
    let hired = c.hire-errand.new.self in
    let new = free-times _ _ (subst (λ crewed. IsFree c.args.job.number crewed.out) (sym c.self.view_is) c.requires) in
    let out = crew_hired s.tasks s.results s.kept.items s.count s.workers room c.self.invariant hired c.args.job c.if-self.false new c.hire-errand.ensures.end in
    crew_put s.tasks hired s.kept.items (s.count + 1) s.workers room out c.put_errand.new.self c.hire-errand.result
    (omega (arith, c.hire-errand.ensures.errand.1, ap (λ end. end.hand.serial) c.hire-errand.ensures.end)) c.in_default.ensures
