-- The line is noted, and then its answer is written.
use Rattle.std.proofs.Common.{◌+◌, ◌≤◌, false, [], List, ℕ, length, refl, ap, ◌∙◌, subst, arith}
use Rattle.display_map.specs.Events.{event_limit}
use Rattle.display_map.specs.Replay.{History, present_of}
use Rattle.edit_script.specs.Commands.{AskCaret}
use Rattle.edit_script.specs.Verdict.{Accepted}
use Rattle.live_display.specs.declared.owner.TheConstants.{EVENTS_AHEAD}
use Rattle.script_runner.specs.CaretLines.{caret_lines}
use Rattle.script_runner.specs.inside.Carets.{lines_of}
use Rattle.script_runner.specs.Outside.{Takes}
use Rattle.script_runner.specs.Output.{printed_with}
use Rattle.script_runner.specs.Writing.{IsUnwritten}
use Rattle.split_views.specs.Views.{history_of}
use Rattle.split_script.specs.Lines.{Own, prefixed}
use Rattle.split_runner.proofs.OwnHandled.{line-short, own-unwritten, own-written}
use Rattle.split_runner.proofs.Verdicts.{caret-calm}
use Rattle.split_runner.proofs.runner.Runner.answer_caret.Goals as goal

pub note_line-requires-clause-room : goal.note_line-requires-clause-room
note_line-requires-clause-room g c =
    let it : length (history_of c.args.self.now.split c.args.view).events + EVENTS_AHEAD ≤ event_limit =
    c.requires.may.room c.args.view (record { opening = []; events = [] }) c.requires.may.there in
    omega (arith, it)

pub returns-in_err-answer-clause-handled : goal.returns-in_err-answer-clause-handled
returns-in_err-answer-clause-handled g c bytes is =
    line-short c.args.number (Own c.args.view bytes) c.args.self.now.split c.args.self.now.split c.args.self.now.undo c.args.self.now.undo
    (g.K.Sink.state c.args.self.now.out.now) c.from_residual.result c.from_residual.ensures.1 refl

pub returns-in_err-note_line-clause-handled : goal.returns-in_err-note_line-clause-handled
returns-in_err-note_line-clause-handled g c bytes is =
    line-short c.args.number (Own c.args.view bytes) c.args.self.now.split c.note_line.new.self c.args.self.now.undo c.args.self.now.undo
    (g.K.Sink.state c.args.self.now.out.now) c.from_residual-in_err-note_line.result c.from_residual-in_err-note_line.ensures.1
    c.in_err-note_line.ensures.unchanged

pub returns-in_err-write_caret_answer-clause-handled : goal.returns-in_err-write_caret_answer-clause-handled
returns-in_err-write_caret_answer-clause-handled g c =
    let sink = g.K.Sink.state c.args.self.now.out.now in
    let sink' = g.K.Sink.state c.write_caret_answer.new.out in
    let are = c.in_ok-answer.ensures.answered ∙ ap (λ (h : History). caret_lines (present_of h) c.args.query.now) c.requires.shown in
    let P : List ℕ → List (List ℕ) → Type 0 = λ p lines. IsUnwritten (printed_with p lines) sink sink' c.in_err-write_caret_answer.field-0.0 in
    own-unwritten c.args.number c.args.view c.args.self.now.split c.note_line.new.self c.args.self.now.undo sink sink'
    (Accepted (AskCaret c.args.query.now)) (caret-calm c.args.query.now) c.requires.may.there c.in_ok-note_line.ensures.noted
    c.from_residual-in_err-write_caret_answer.result c.in_err-write_caret_answer.field-0.0 c.from_residual-in_err-write_caret_answer.ensures.1
    (subst (P (prefixed c.args.view [])) are (subst (λ p. P p (lines_of c.in_ok-answer.answer)) c.prefix.ensures c.in_err-write_caret_answer.ensures.stopped))

pub returns-clause-handled : goal.returns-clause-handled
returns-clause-handled g c =
    let sink = g.K.Sink.state c.args.self.now.out.now in
    let sink' = g.K.Sink.state c.write_caret_answer.new.out in
    let are = c.in_ok-answer.ensures.answered ∙ ap (λ (h : History). caret_lines (present_of h) c.args.query.now) c.requires.shown in
    let P : List ℕ → List (List ℕ) → Type 0 = λ p lines. Takes (printed_with p lines) sink sink' in
    own-written c.args.number c.args.view c.args.self.now.split c.note_line.new.self c.args.self.now.undo sink sink'
    (Accepted (AskCaret c.args.query.now)) (caret-calm c.args.query.now) c.requires.may.there c.in_ok-note_line.ensures.noted false refl
    (subst (P (prefixed c.args.view [])) are (subst (λ p. P p (lines_of c.in_ok-answer.answer)) c.prefix.ensures c.in_ok-write_caret_answer.ensures.written))
