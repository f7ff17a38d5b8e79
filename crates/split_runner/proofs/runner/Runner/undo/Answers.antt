-- There is a batch to take, which is done in every view, or there is none.
use Rattle.std.proofs.Common.{◌≡◌, ◌<◌, ◌∙◌, false, Some, length, Ok, refl, sym, ap, subst}
use Rattle.std.specs.Prelude.{is_some, slice_get}
use Rattle.std.specs.Option.{option_copied}
use Rattle.script_runner.specs.Outside.{SinkState}
use Rattle.undo_line.specs.Inverse.{Leads}
use Rattle.undo_line.specs.TextLines.{IsLineOf, undone}
use Rattle.undo_line.specs.UndoParts.{UndoParts}
use Rattle.split_script.specs.Lines.{Undo}
use Rattle.split_script.specs.Met.{steps_of}
use Rattle.split_runner.specs.Going.{HandlesReady, at}
use Rattle.split_runner.proofs.Batches.{IsSameLine}
use Rattle.split_runner.proofs.EditHandled.{ready-same}
use Rattle.split_runner.proofs.OwnHandled.{line-short}
use Rattle.split_runner.proofs.UndoHandled.{none-there, restore-cut, restore-handled, undo-after, undo-refused, undo-shared}
use Rattle.split_runner.proofs.runner.Runner.undo.Goals as goal

pub returns-in_err-ready-clause-handled : goal.returns-in_err-ready-clause-handled
returns-in_err-ready-clause-handled g c =
    line-short c.args.number Undo c.args.self.now.split c.args.self.now.split c.args.self.now.undo c.ready.new.self
    (g.K.Sink.state c.args.self.now.out.now) c.from_residual.result c.from_residual.ensures.1 refl

pub returns-in_err-batch-clause-handled : goal.returns-in_err-batch-clause-handled
returns-in_err-batch-clause-handled g c =
    line-short c.args.number Undo c.args.self.now.split c.args.self.now.split c.args.self.now.undo c.ready.new.self
    (g.K.Sink.state c.args.self.now.out.now) c.from_residual-in_err-batch.result c.from_residual-in_err-batch.ensures.1 refl

pub returns-in_default-clause-handled : goal.returns-in_default-clause-handled
returns-in_default-clause-handled g c = λ course done refused next ready.
    (let hs = c.args.self.now.split in
    let undo = c.args.self.now.undo in
    let sink = g.K.Sink.state c.args.self.now.out.now in
    let same : IsSameLine undo c.ready.new.self = record { past = c.ready.ensures.past; future = c.ready.ensures.future; line = c.ready.ensures.line } in
    let now = ready-same course done refused hs undo c.ready.new.self sink same ready in
    c.refuse_astray.ensures.handled course done refused (c.args.number, Undo) next now.going
    (undo-refused course.text hs (steps_of hs done) c.args.number c.ready.new.self now.going.undo
    (none-there c.ready.new.self.past c.last_done.result c.last_done.ensures.some c.in_default.is)))

pub undone-requires-clause-room : goal.undone-requires-clause-room
undone-requires-clause-room g c =
    let P : UndoParts → Type 0 = λ u. 0 < u.spare in subst P (sym c.restore.ensures.undo) c.in_ok-ready.ensures.room

pub undone-requires-clause-some : goal.undone-requires-clause-some
undone-requires-clause-some g c =
    let P : UndoParts → Type 0 = λ u. 0 < length u.past in subst P (sym c.restore.ensures.undo) (c.last_done.ensures.some.0 (ap is_some c.in-Some.is))

pub returns-in_err-back-clause-handled : goal.returns-in_err-back-clause-handled
returns-in_err-back-clause-handled g c =
    let hs = c.args.self.now.split in
    let undo = c.args.self.now.undo in
    let sink = g.K.Sink.state c.args.self.now.out.now in
    let there : slice_get undo.past 0 ≡ Some c.in_ok-batch.batch.items =
    ap (λ l. slice_get l 0) (sym c.ready.ensures.past) ∙ (sym c.last_done.ensures.batch ∙ (ap option_copied c.in-Some.is ∙ ap Some (sym c.in_ok-batch.ensures))) in
    let H : SinkState → Type 0 = λ s. HandlesReady c.args.number Undo (at hs undo sink) (at c.restore.new.self.split c.restore.new.self.undo s)
    c.from_residual-in_err-back.result in
    subst H (sym c.restore.ensures.written)
    (restore-cut c.args.number Undo undo-shared hs c.restore.new.self.split undo c.restore.new.self.undo sink c.in_ok-batch.batch.items c.requires
    (λ text done it. ap (λ l. slice_get l 0) (sym it.past) ∙ there)
    c.from_residual-in_err-back.result c.in_err-back.field-0.0 c.from_residual-in_err-back.ensures.1 c.in_err-back.ensures.unrestored)

pub returns-clause-handled : goal.returns-clause-handled
returns-clause-handled g c =
    let hs = c.args.self.now.split in
    let undo = c.args.self.now.undo in
    let sink = g.K.Sink.state c.args.self.now.out.now in
    let taken = c.in_ok-batch.batch.items in
    let there : slice_get undo.past 0 ≡ Some taken =
    ap (λ l. slice_get l 0) (sym c.ready.ensures.past) ∙ (sym c.last_done.ensures.batch ∙ (ap option_copied c.in-Some.is ∙ ap Some (sym c.in_ok-batch.ensures))) in
    let ready : IsSameLine undo c.ready.new.self = record { past = c.ready.ensures.past; future = c.ready.ensures.future; line = c.ready.ensures.line } in
    let same : IsSameLine undo c.restore.new.self.undo = subst (IsSameLine undo) (sym c.restore.ensures.undo) ready in
    let H : SinkState → Type 0 = λ s. HandlesReady c.args.number Undo (at hs undo sink) (at c.restore.new.self.split c.undone.new.self s) (Ok false) in
    let there-now : slice_get c.restore.new.self.undo.past 0 ≡ Some taken = ap (λ l. slice_get l 0) same.past ∙ there in
    subst H (sym c.restore.ensures.written)
    (restore-handled c.args.number Undo undo-shared hs c.restore.new.self.split undo c.undone.new.self sink taken c.requires
    (λ text done it. ap (λ l. slice_get l 0) (sym it.past) ∙ there) c.in_ok-back.ensures.accepted c.in_ok-back.ensures.done
    (undo-after hs taken c.in_ok-back.back.items undo c.restore.new.self.undo c.undone.new.self same there-now
    (λ line is. subst (λ b. Leads line.present b (undone line).present) (sym c.in_ok-batch.ensures)
    (c.in-Some.ensures.leads line (subst (λ u. IsLineOf u line) c.restore.ensures.undo is)))
    (λ line is. (c.last_done.ensures.text line (subst (λ u. IsLineOf u line) c.restore.ensures.undo is)).0 (ap is_some c.in-Some.is))
    c.in_ok-back.ensures.back c.in_ok-back.ensures.leads c.undone.ensures.past c.undone.ensures.future c.undone.ensures.line))
