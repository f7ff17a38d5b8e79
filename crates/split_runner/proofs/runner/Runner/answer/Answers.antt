-- The line is noted, and then its answer is written or its refusal.
use Rattle.std.proofs.Common.{◌+◌, ◌≤◌, false, [], List, ℕ, length, Ok, refl, sym, ap, ◌∙◌, subst, arith}
use Rattle.display_map.specs.Events.{event_limit}
use Rattle.display_map.specs.Replay.{History, present_of, versions_of}
use Rattle.edit_script.specs.Answers.{IsUnanswered}
use Rattle.edit_script.specs.Commands.{Ask}
use Rattle.edit_script.specs.Printed.{query_lines}
use Rattle.edit_script.specs.Verdict.{Accepted, query_refusal, refused_or}
use Rattle.live_display.specs.declared.owner.TheConstants.{EVENTS_AHEAD}
use Rattle.script_runner.specs.Outside.{Takes}
use Rattle.script_runner.specs.Output.{printed_with}
use Rattle.script_runner.specs.Writing.{IsUnwritten}
use Rattle.script_runner.proofs.Handled.{has-answer, lines-few}
use Rattle.split_views.specs.Views.{history_of}
use Rattle.split_script.specs.Lines.{Own, prefixed}
use Rattle.split_runner.specs.Going.{at, stage}
use Rattle.split_runner.proofs.OwnHandled.{line-short, own-unwritten, own-written}
use Rattle.split_runner.proofs.Verdicts.{own-as, query-calm, query-unread}
use Rattle.split_runner.proofs.runner.Runner.answer.Goals as goal

pub answer-requires : goal.answer-requires
answer-requires g c =
    let P : History → Type 0 = λ h. 1 ≤ versions_of h.events in
    has-answer (versions_of c.args.shown.now.events) c.args.query.now (subst P (sym c.requires.shown) c.requires.may.published)

pub write_answer-requires : goal.write_answer-requires
write_answer-requires g c =
    let few = lines-few (present_of c.args.shown.now) (versions_of c.args.shown.now.events) c.args.query.now in
    let rows = c.row_count-rows.ensures in
    let are = ap length c.in-Ok.ensures.answered in
    omega arith

pub note_line-requires-clause-room : goal.note_line-requires-clause-room
note_line-requires-clause-room g c =
    let it : length (history_of c.args.self.now.split c.args.view).events + EVENTS_AHEAD ≤ event_limit =
    c.requires.may.room c.args.view (record { opening = []; events = [] }) c.requires.may.there in
    omega (arith, it)

pub returns-in_err-note_line-in-Ok-clause-handled : goal.returns-in_err-note_line-in-Ok-clause-handled
returns-in_err-note_line-in-Ok-clause-handled g c bytes is =
    line-short c.args.number (Own c.args.view bytes) c.args.self.now.split c.note_line.new.self c.args.self.now.undo c.args.self.now.undo
    (g.K.Sink.state c.args.self.now.out.now) c.from_residual.result c.from_residual.ensures.1 c.in_err-note_line-in-Ok.ensures.unchanged

pub returns-in_err-write_answer-in-Ok-clause-handled : goal.returns-in_err-write_answer-in-Ok-clause-handled
returns-in_err-write_answer-in-Ok-clause-handled g c =
    let h = history_of c.args.self.now.split c.args.view in
    let sink = g.K.Sink.state c.args.self.now.out.now in
    let sink' = g.K.Sink.state c.write_answer.new.out in
    let are = c.in-Ok.ensures.answered ∙ ap (λ (h : History). query_lines (present_of h) (versions_of h.events) c.args.query.now) c.requires.shown in
    let P : List ℕ → List (List ℕ) → Type 0 = λ p lines. IsUnwritten (printed_with p lines) sink sink' c.in_err-write_answer-in-Ok.field-0.0 in
    let accepted = ap (λ (h : History). query_refusal (present_of h) c.args.query.now) (sym c.requires.shown) ∙ c.in-Ok.ensures.accepted in
    own-as c.args.number c.args.view (refused_or (Ask c.args.query.now) (query_refusal (present_of h) c.args.query.now)) (Accepted (Ask c.args.query.now))
    (at c.args.self.now.split c.args.self.now.undo sink) (at c.note_line.new.self c.args.self.now.undo sink')
    c.from_residual-in_err-write_answer-in-Ok.result (ap (refused_or (Ask c.args.query.now)) accepted)
    (own-unwritten c.args.number c.args.view c.args.self.now.split c.note_line.new.self c.args.self.now.undo sink sink'
    (Accepted (Ask c.args.query.now)) (query-calm c.args.query.now) c.requires.may.there c.in_ok-note_line-in-Ok.ensures.noted
    c.from_residual-in_err-write_answer-in-Ok.result c.in_err-write_answer-in-Ok.field-0.0 c.from_residual-in_err-write_answer-in-Ok.ensures.1
    (subst (P (prefixed c.args.view [])) are (subst (λ p. P p c.in-Ok.lines) c.prefix.ensures c.in_err-write_answer-in-Ok.ensures.stopped)))

pub returns-in_ok-write_answer-in-Ok-clause-handled : goal.returns-in_ok-write_answer-in-Ok-clause-handled
returns-in_ok-write_answer-in-Ok-clause-handled g c =
    let h = history_of c.args.self.now.split c.args.view in
    let sink = g.K.Sink.state c.args.self.now.out.now in
    let sink' = g.K.Sink.state c.write_answer.new.out in
    let are = c.in-Ok.ensures.answered ∙ ap (λ (h : History). query_lines (present_of h) (versions_of h.events) c.args.query.now) c.requires.shown in
    let P : List ℕ → List (List ℕ) → Type 0 = λ p lines. Takes (printed_with p lines) sink sink' in
    let accepted = ap (λ (h : History). query_refusal (present_of h) c.args.query.now) (sym c.requires.shown) ∙ c.in-Ok.ensures.accepted in
    own-as c.args.number c.args.view (refused_or (Ask c.args.query.now) (query_refusal (present_of h) c.args.query.now)) (Accepted (Ask c.args.query.now))
    (at c.args.self.now.split c.args.self.now.undo sink) (at c.note_line.new.self c.args.self.now.undo sink') (Ok false)
    (ap (refused_or (Ask c.args.query.now)) accepted)
    (own-written c.args.number c.args.view c.args.self.now.split c.note_line.new.self c.args.self.now.undo sink sink'
    (Accepted (Ask c.args.query.now)) (query-calm c.args.query.now) c.requires.may.there c.in_ok-note_line-in-Ok.ensures.noted false refl
    (subst (P (prefixed c.args.view [])) are (subst (λ p. P p c.in-Ok.lines) c.prefix.ensures c.in_ok-write_answer-in-Ok.ensures.written)))

pub returns-in-Err-clause-handled : goal.returns-in-Err-clause-handled
returns-in-Err-clause-handled g c =
    let U : History → Type 0 = λ h. IsUnanswered (present_of h) c.args.query.now c.in-Err.fault in
    query-unread c.args.number c.args.view c.args.query.now c.in-Err.fault
    (stage g.K.Sink.state c.args.self.now) (stage g.K.Sink.state c.refuse_unread.new.self) c.refuse_unread.result
    (subst U c.requires.shown c.in-Err.ensures.refused) c.refuse_unread.ensures.handled
