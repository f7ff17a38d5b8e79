use Rattle.folded_text.proofs.AnsweredLines.{answers-meet}
use Rattle.folded_text.proofs.LedLines.{lines-follow}
use Rattle.folded_text.proofs.ToldMaps.{answers-suffice}
use Rattle.folded_text.proofs.laws.answer_laws.Goals as goal

pub returns-clause-suffice : goal.returns-clause-suffice
returns-clause-suffice c = answers-suffice

pub returns-clause-meet : goal.returns-clause-meet
returns-clause-meet c =
    let inlays = c.met_laws.ensures in
    let folds = c.met_laws-2.ensures in
    answers-meet inlays.added inlays.removed inlays.replaced folds.folded folds.opened folds.replaced

pub returns-clause-follow : goal.returns-clause-follow
returns-clause-follow c shift old new answer formed formed' leads = lines-follow shift old new formed formed' answer leads
