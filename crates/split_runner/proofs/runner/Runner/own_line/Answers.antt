-- What the line is read as has its verdict.
use Rattle.std.proofs.Common.{refl, subst}
use Rattle.display_map.specs.Replay.{History, present_of}
use Rattle.edit_script.specs.declared.asked.Form.TheVariants.{First}
use Rattle.edit_script.specs.Verdict.{IsLineRefused}
use Rattle.script_runner.specs.Going.{IsReadOn}
use Rattle.script_runner.proofs.Handled.{asked-change, verdict-caret, verdict-change, verdict-query, verdict-settle}
use Rattle.split_views.specs.Views.{history_of}
use Rattle.split_script.specs.Lines.{Own}
use Rattle.split_runner.specs.Going.{stage}
use Rattle.split_runner.proofs.LineHandled.{unread-handled}
use Rattle.split_runner.proofs.OwnHandled.{line-short}
use Rattle.split_runner.proofs.runner.Runner.own_line.Goals as goal

pub returns-in_err-shown-clause-handled : goal.returns-in_err-shown-clause-handled
returns-in_err-shown-clause-handled g c =
    line-short c.args.number (Own c.args.view c.args.line.now) c.args.self.now.split c.args.self.now.split c.args.self.now.undo c.args.self.now.undo
    (g.K.Sink.state c.args.self.now.out.now) c.from_residual.result c.from_residual.ensures.1 refl

pub returns-in-Ok-Change-clause-handled : goal.returns-in-Ok-Change-clause-handled
returns-in-Ok-Change-clause-handled g c =
    let h = history_of c.args.self.now.split c.args.view in
    let R : History → Type 0 = λ k. IsReadOn First (present_of k).text c.args.line.now c.in-Ok-Change.field-0 in
    let it = c.in-Ok-Change in
    let read : R h = subst R c.in_ok-shown.ensures (record { within = it.ensures.within; command = it.ensures.read; fits = it.ensures.fits }) in
    c.change.ensures.handled c.args.line.now
    (verdict-change First (present_of h) c.args.line.now it.field-0 it.change read it.field-0-is)
    (asked-change First (present_of h) c.args.line.now it.field-0 it.change read it.field-0-is)

pub returns-in-Ok-Query-clause-handled : goal.returns-in-Ok-Query-clause-handled
returns-in-Ok-Query-clause-handled g c =
    let h = history_of c.args.self.now.split c.args.view in
    let R : History → Type 0 = λ k. IsReadOn First (present_of k).text c.args.line.now c.in-Ok-Query.field-0 in
    let it = c.in-Ok-Query in
    let read : R h = subst R c.in_ok-shown.ensures (record { within = it.ensures.within; command = it.ensures.read; fits = it.ensures.fits }) in
    c.answer.ensures.handled c.args.line.now
    (verdict-query First (present_of h) c.args.line.now it.field-0 it.query read it.field-0-is)

pub returns-in-Ok-Caret-clause-handled : goal.returns-in-Ok-Caret-clause-handled
returns-in-Ok-Caret-clause-handled g c =
    let h = history_of c.args.self.now.split c.args.view in
    let R : History → Type 0 = λ k. IsReadOn First (present_of k).text c.args.line.now c.in-Ok-Caret.field-0 in
    let it = c.in-Ok-Caret in
    let read : R h = subst R c.in_ok-shown.ensures (record { within = it.ensures.within; command = it.ensures.read; fits = it.ensures.fits }) in
    c.answer_caret.ensures.handled c.args.line.now
    (verdict-caret First (present_of h) c.args.line.now it.field-0 it.query read it.field-0-is)

pub returns-in-Ok-Settle-clause-handled : goal.returns-in-Ok-Settle-clause-handled
returns-in-Ok-Settle-clause-handled g c =
    let h = history_of c.args.self.now.split c.args.view in
    let R : History → Type 0 = λ k. IsReadOn First (present_of k).text c.args.line.now c.in-Ok-Settle.field-0 in
    let it = c.in-Ok-Settle in
    let read : R h = subst R c.in_ok-shown.ensures (record { within = it.ensures.within; command = it.ensures.read; fits = it.ensures.fits }) in
    c.settled.ensures.handled c.args.line.now
    (verdict-settle First (present_of h) c.args.line.now it.field-0 read it.field-0-is)

pub returns-clause-handled : goal.returns-clause-handled
returns-clause-handled g c =
    let U : History → Type 0 = λ k. IsLineRefused First (present_of k).text c.args.line.now c.in-Err.fault in
    unread-handled c.args.number c.args.view c.args.line.now c.in-Err.fault (stage g.K.Sink.state c.args.self.now)
    (stage g.K.Sink.state c.refuse_unread.new.self) c.refuse_unread.result (subst U c.in_ok-shown.ensures c.in-Err.ensures.refused)
    c.refuse_unread.ensures.handled
