use Rattle.std.proofs.Common.{map, sym, subst, arith}
use Rattle.joined_folds.specs.JoinedLists.{AreJoined}
use Rattle.joined_folds.specs.Sweeps.{AreMet, fold_of}
use Rattle.joined_folds.specs.Windows.{IsWindow}
use Rattle.fold_map.proofs.ChangedFolds.{are-met, if-so}
use Rattle.fold_map.proofs.FoldCounts.{found-steps}
use Rattle.fold_map.proofs.changed.joined_in.Goals as goal

pub returns-clause-ok : goal.returns-clause-ok
returns-clause-ok c =
    let folds = map fold_of c.args.folds.now in
    let w = c.args.window in
    if-so c.joined_within.result (IsWindow folds w) (λ v. AreJoined folds w.from v.items w.to)
    (λ is. c.joined_within.ensures.joined folds is
    (subst (AreMet folds w) (sym c.as_slice.ensures.value)
    (are-met c.args.folds.now w c.saturating_add-past.result c.in_ok-met.met.items c.len-count.ensures.lawful (omega (arith, c.saturating_add-past.ensures)) c.in_ok-met.ensures.met)))

pub returns-in_err-met-clause-steps : goal.returns-in_err-met-clause-steps
returns-in_err-met-clause-steps c h lt =
    found-steps c.args.folds.now c.args.window.start c.args.window.end c.saturating_add-past.result c.args.steps.now c.meeting.new.steps c.len-count.ensures.lawful (omega (arith, c.saturating_add-past.ensures)) c.meeting.ensures.steps h lt

pub returns-clause-steps : goal.returns-clause-steps
returns-clause-steps c h lt =
    found-steps c.args.folds.now c.args.window.start c.args.window.end c.saturating_add-past.result c.args.steps.now c.meeting.new.steps c.len-count.ensures.lawful (omega (arith, c.saturating_add-past.ensures)) c.meeting.ensures.steps h lt
