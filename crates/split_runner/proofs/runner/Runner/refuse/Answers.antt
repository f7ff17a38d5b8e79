-- The line is noted, and then its refusal is written.
use Rattle.std.proofs.Common.{◌+◌, ◌≤◌, true, [], ◌∷◌, List, ℕ, length, refl, subst, arith}
use Rattle.display_map.specs.Events.{event_limit}
use Rattle.edit_script.specs.Printed.{refusal_text}
use Rattle.edit_script.specs.Verdict.{Refused}
use Rattle.live_display.specs.declared.owner.TheConstants.{EVENTS_AHEAD}
use Rattle.script_runner.specs.Outside.{Takes}
use Rattle.script_runner.specs.Output.{printed_with}
use Rattle.script_runner.specs.Writing.{IsUnwritten}
use Rattle.split_views.specs.Views.{history_of}
use Rattle.split_script.specs.Lines.{Own}
use Rattle.split_runner.proofs.OwnAnswers.{refused-calm}
use Rattle.split_runner.proofs.OwnHandled.{line-short, own-unwritten, own-written}
use Rattle.split_runner.proofs.runner.Runner.refuse.Goals as goal

pub note_line-requires-clause-room : goal.note_line-requires-clause-room
note_line-requires-clause-room g c =
    let it : length (history_of c.args.self.now.split c.args.view).events + EVENTS_AHEAD ≤ event_limit =
    c.requires.room c.args.view (record { opening = []; events = [] }) c.requires.there in
    omega (arith, it)

pub returns-in_err-note_line-clause-handled : goal.returns-in_err-note_line-clause-handled
returns-in_err-note_line-clause-handled g c bytes is =
    line-short c.args.number (Own c.args.view bytes) c.args.self.now.split c.note_line.new.self c.args.self.now.undo c.args.self.now.undo
    (g.K.Sink.state c.args.self.now.out.now) c.from_residual.result c.from_residual.ensures.1 c.in_err-note_line.ensures.unchanged

pub returns-in_err-write_refusal-clause-handled : goal.returns-in_err-write_refusal-clause-handled
returns-in_err-write_refusal-clause-handled g c =
    let sink = g.K.Sink.state c.args.self.now.out.now in
    let sink' = g.K.Sink.state c.write_refusal.new.out in
    own-unwritten c.args.number c.args.view c.args.self.now.split c.note_line.new.self c.args.self.now.undo sink sink'
    (Refused c.args.refusal) (refused-calm c.args.refusal) c.requires.there c.in_ok-note_line.ensures.noted
    c.from_residual-in_err-write_refusal.result c.in_err-write_refusal.field-0.0 c.from_residual-in_err-write_refusal.ensures.1
    (let P : List ℕ → Type 0 = λ p. IsUnwritten (printed_with p (refusal_text c.args.refusal ∷ [])) sink sink' c.in_err-write_refusal.field-0.0 in
    subst P c.prefix.ensures c.in_err-write_refusal.ensures.stopped)

pub returns-clause-handled : goal.returns-clause-handled
returns-clause-handled g c =
    let sink = g.K.Sink.state c.args.self.now.out.now in
    let sink' = g.K.Sink.state c.write_refusal.new.out in
    own-written c.args.number c.args.view c.args.self.now.split c.note_line.new.self c.args.self.now.undo sink sink'
    (Refused c.args.refusal) (refused-calm c.args.refusal) c.requires.there c.in_ok-note_line.ensures.noted true refl
    (let P : List ℕ → Type 0 = λ p. Takes (printed_with p (refusal_text c.args.refusal ∷ [])) sink sink' in
    subst P c.prefix.ensures c.in_ok-write_refusal.ensures.written)
