-- A line that isn't read does nothing.
use Rattle.std.proofs.Common.{sym, subst}
use Rattle.display_map.specs.Replay.{History, present_of}
use Rattle.edit_script.specs.declared.asked.Form.TheVariants.{Second}
use Rattle.edit_script.specs.Verdict.{IsLineRefused}
use Rattle.display_session.specs.declared.trouble.Trouble.{Trouble}
use Rattle.display_session.specs.Lines.{HasFailedAt, verdict_on}
use Rattle.display_session.proofs.Lines.{unread-failed}
use Rattle.display_session.proofs.session.Session.read.Goals as goal

pub returns-clause-failed : goal.returns-clause-failed
returns-clause-failed c =
    let d : History = c.args.self.now.display in
    let refused : IsLineRefused Second (present_of d).text c.args.line.now c.in-Err.fault =
    subst (λ (h : History). IsLineRefused Second (present_of h).text c.args.line.now c.in-Err.fault) c.in_ok-view.ensures.view c.in-Err.ensures.refused in
    subst (λ (t : Trouble). HasFailedAt (verdict_on d c.args.line.now) d d t) (sym c.into.ensures)
    (unread-failed d c.args.line.now c.in-Err.fault (c.verdict_laws.ensures.unread Second (present_of d) c.args.line.now) refused)
