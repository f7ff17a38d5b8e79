use Rattle.display_sheet.proofs.StepSplices.{splices_marks}
use Rattle.display_sheet.proofs.StepLaws.{IsLawful-step, gives_fresh_marks, keeps_marks}
use Rattle.display_sheet.proofs.laws.step_laws.Goals as goal

pub returns-clause-lawful : goal.returns-clause-lawful
returns-clause-lawful c = IsLawful-step

pub returns-clause-handed_on : goal.returns-clause-handed_on
returns-clause-handed_on c = keeps_marks

pub returns-clause-fresh : goal.returns-clause-fresh
returns-clause-fresh c = gives_fresh_marks

pub returns-clause-splices : goal.returns-clause-splices
returns-clause-splices c operation r is allowed a b a' b' t =
    splices_marks operation r is allowed a b a' b' t.rows t.order t.within t.order_after t.within_after
