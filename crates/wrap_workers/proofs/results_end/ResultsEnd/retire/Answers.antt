use Rattle.std.proofs.Common.{ap, ◌∙◌, sym, subst}
use Rattle.crossbeam_channel.specs.Claims.{view}
use Rattle.wrap_workers.specs.Jobs.{front, last, without_each}
use Rattle.wrap_workers.specs.Owed.{after_retired, crew_hand}
use Rattle.wrap_workers.specs.inside.Ends.{IsLast}
use Rattle.wrap_workers.proofs.JobsOut.{knows}
use Rattle.wrap_workers.proofs.Owing.{counts, last_is, last_out, retires_last}
use Rattle.wrap_workers.proofs.results_end.ResultsEnd.retire.Goals as goal
use Rattle.std.specs.Prelude.{Contains}

pub learn_as-requires-clause-rule : goal.learn_as-requires-clause-rule
learn_as-requires-clause-rule g c = counts _ _ c.self.invariant.2

pub another-requires-clause-rule : goal.another-requires-clause-rule
another-requires-clause-rule g c =
    let same = c.learn_as.ensures.channel.2 in
    let own = subst (λ end. IsLast end.hand.rights c.args.job.now) (sym c.self.view_is) c.requires in
    retires_last _ _ _ (ap (λ v. v.crew) same ∙ c.self.invariant.2) (subst (λ v. IsLast v.rights c.args.job.now) (sym same) own)

pub returns-clause-end : goal.returns-clause-end
returns-clause-end g c =
    let old = view c.self.inside.hand in
    let own = subst (λ end. IsLast end.hand.rights c.args.job.now) (sym c.self.view_is) c.requires in
    knows (λ v. after_retired v c.args.job.now) _ _ _ c.self.view_is
    (c.another.ensures.rule.0
    ∙ ap (λ v. crew_hand v.serial (without_each (last v.rights) v.out) (front v.rights)) c.learn_as.ensures.channel.2
    ∙ ap (λ jobs. crew_hand old.serial (without_each jobs old.out) (front old.rights)) (last_is old.rights _ own))

pub returns-clause-out : goal.returns-clause-out
returns-clause-out g c =
    let own = subst (λ end. IsLast end.hand.rights c.args.job.now) (sym c.self.view_is) c.requires in
    subst (λ end. Contains end.hand.out c.args.job.now) c.self.view_is
    (last_out _ (view c.self.inside.hand).rights _ c.learn_as.ensures.rule.1.0 own)
