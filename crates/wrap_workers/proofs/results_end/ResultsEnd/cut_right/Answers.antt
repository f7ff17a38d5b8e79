use Rattle.std.proofs.Common.{◌≡◌, sym, subst}
use Rattle.wrap_workers.specs.Owed.{times}
use Rattle.wrap_workers.proofs.Owing.{hires_named}
use Rattle.wrap_workers.proofs.results_end.ResultsEnd.cut_right.Goals as goal

pub another-requires-clause-rule : goal.another-requires-clause-rule
another-requires-clause-rule g c =
    hires_named _ _ _ _ c.requires.named c.self.invariant.2
    (subst (λ end. times c.args.job.now.number end.hand.out ≡ 0) (sym c.self.view_is) c.requires.new)
