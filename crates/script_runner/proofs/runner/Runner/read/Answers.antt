use Rattle.std.proofs.Common.{◌≡◌, ◌∙◌, ap, subst}
use Rattle.std.specs.Prelude.{Some, IfErr, IfOk}
use Rattle.display_map.specs.Replay.{History, present_of}
use Rattle.edit_script.specs.Commands.{command_of, meaning}
use Rattle.edit_script.specs.Verdict.{IsLineRefused}
use Rattle.script_runner.specs.Going.{read_wants_settled}
use Rattle.script_runner.proofs.ReadLines.{read_on, unread_on}
use Rattle.script_runner.proofs.runner.Runner.read.Goals as goal

pub returns-clause-read : goal.returns-clause-read
returns-clause-read g c =
    let form = c.args.self.now.form in
    let line = c.args.line.now in
    read_on form (present_of c.args.self.now.owner.display).text line c.read_line-read.result c.read_line-read.ensures.within
    (subst (λ (h : History). IfOk c.read_line-read.result (λ asked. command_of form (present_of h).text line ≡ Some (meaning asked))) c.in-Ok.ensures c.read_line-read.ensures.read)
    c.read_line-read.ensures.fits

pub returns-clause-refused : goal.returns-clause-refused
returns-clause-refused g c =
    let form = c.args.self.now.form in
    let line = c.args.line.now in
    unread_on form (present_of c.args.self.now.owner.display).text line c.read_line-read.result
    (subst (λ (h : History). IfErr c.read_line-read.result (IsLineRefused form (present_of h).text line)) c.in-Ok.ensures c.read_line-read.ensures.refused)

pub returns-clause-settles : goal.returns-clause-settles
returns-clause-settles g c =
    c.wants_settled-settles.ensures.settles ∙ ap (λ (h : History). read_wants_settled (present_of h) c.read_line-read.result) c.in-Ok.ensures
