use Rattle.std.proofs.Common.{ap, ◌∙◌, sym, subst}
use Rattle.crossbeam_channel.specs.Claims.{view}
use Rattle.wrap_workers.specs.Owed.{right_to}
use Rattle.wrap_workers.specs.inside.Ends.{IsLast}
use Rattle.wrap_workers.proofs.Owing.{is_right_to, last_is, lends_last}
use Rattle.wrap_workers.proofs.results_end.ResultsEnd.lend.Goals as goal

pub another-right-requires-clause-rule : goal.another-right-requires-clause-rule
another-right-requires-clause-rule g c =
    lends_last _ _ _ c.self.invariant.2 (subst (λ end. IsLast end.hand.rights c.args.job) (sym c.self.view_is) c.requires)

pub invariant_of-result : goal.invariant_of-result
invariant_of-result g c =
    let old = view c.self.inside.hand in
    let last = subst (λ end. IsLast end.hand.rights c.args.job) (sym c.self.view_is) c.requires in
    is_right_to c.another-right.result old.serial c.args.job (c.another-right.ensures.rule.1 ∙ ap (right_to old.serial) (last_is old.rights _ last))
