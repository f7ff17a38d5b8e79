use Rattle.std.proofs.Common.{[], ◌∷◌, ◌++◌, ap, append-nil, ◌∙◌, sym, arith}
use Rattle.std.specs.Vec.{vec_capacity}
use Rattle.wrap_workers.proofs.JobsOut.{crew_lent, crew_put, crew_put_back, crew_returned}
use Rattle.wrap_workers.proofs.crews.Crew.put_last.Goals as goal

pub invariant_of-self-in-None : goal.invariant_of-self-in-None
invariant_of-self-in-None g c =
    let s = c.self.inside in
    let room = vec_capacity c.pop.new.self in
    let lent = crew_lent s.tasks s.results s.kept.items s.count s.workers (vec_capacity s.kept) c.self.invariant c.lend-errand.new.self c.in-Some.job
    c.pop.new.self.items room c.lend-errand.ensures.end c.in-Some.ensures.items c.in-Some.ensures.capacity in
    crew_put s.tasks c.lend-errand.new.self c.pop.new.self.items s.count s.workers room lent c.put_errand.new.self c.lend-errand.result
    (omega (arith, c.lend-errand.ensures.errand.1, ap (λ end. end.hand.serial) c.lend-errand.ensures.end)) c.in-None.ensures

pub invariant_of-self-in-Some-put_errand : goal.invariant_of-self-in-Some-put_errand
invariant_of-self-in-Some-put_errand g c =
    let s = c.self.inside in
    let room = vec_capacity c.pop.new.self in
    let lent = crew_lent s.tasks s.results s.kept.items s.count s.workers (vec_capacity s.kept) c.self.invariant c.lend-errand.new.self c.in-Some.job
    c.pop.new.self.items room c.lend-errand.ensures.end c.in-Some.ensures.items c.in-Some.ensures.capacity in
    let back = crew_put_back s.tasks c.lend-errand.new.self c.pop.new.self.items s.count s.workers room lent c.put_errand.new.self c.in-Some-put_errand.ensures.1 in
    let pushed = c.push_reserved.ensures.items ∙ ap (λ job. c.pop.new.self.items ++ job ∷ []) c.take_back-job.ensures.job in
    crew_returned c.put_errand.new.self c.lend-errand.new.self c.pop.new.self.items s.count s.workers room back c.take_back-job.new.self c.in-Some-put_errand.back.job
    c.push_reserved.new.self.items (vec_capacity c.push_reserved.new.self) c.take_back-job.ensures.end pushed c.push_reserved.ensures.capacity

pub returns-in-Some-put_errand-clause-kept : goal.returns-in-Some-put_errand-clause-kept
returns-in-Some-put_errand-clause-kept g c =
    let own = c.take_back-job.ensures.job ∙ ap (λ e. e.job) c.in-Some-put_errand.ensures.0 ∙ c.lend-errand.ensures.errand.0 in (
      [],
      sym (ap (λ crewed. crewed.kept) c.self.view_is)
          ∙ c.in-Some.ensures.items
          ∙ ap (λ job. c.pop.new.self.items ++ job ∷ []) (sym own)
          ∙ sym c.push_reserved.ensures.items
          ∙ sym (append-nil c.push_reserved.new.self.items),
    )
