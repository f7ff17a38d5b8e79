-- The edit reaches every view, and what takes it back is kept, or it is refused.
use Rattle.std.proofs.Common.{◌<◌, false, Ok, Err, refl, sym, ◌∙◌, subst, arith}
use Rattle.std.specs.Prelude.{vec_len}
use Rattle.std.proofs.lemmas.Bool.{eqb-false, eqb-true}
use Rattle.cell_units.specs.declared.fault.Fault.TheVariants as faults
use Rattle.display_map.specs.Replay.{present_of}
use Rattle.display_sheet.specs.Changes.{parts_of}
use Rattle.edit_script.specs.Verdict.{Refused}
use Rattle.script_runner.specs.declared.stop.Stop.TheVariants as stops
use Rattle.script_runner.specs.Outside.{SinkState}
use Rattle.split_views.specs.Views.{history_of}
use Rattle.undo_line.specs.UndoParts.{UndoParts}
use Rattle.split_script.specs.Lines.{Own}
use Rattle.split_runner.specs.Going.{HandlesOwn, IsUnreached, MayHandle, at, change_verdict, stage}
use Rattle.split_runner.proofs.Batches.{IsSameLine}
use Rattle.split_runner.proofs.EditHandled.{change-refused, edit-handled, edit-short, edited-after, silent-after}
use Rattle.split_runner.proofs.OwnHandled.{line-short}
use Rattle.split_runner.proofs.Reaching.{edit-refused-as, positive}
use Rattle.split_runner.proofs.runner.Runner.edit.Goals as goal

pub returns-in_err-ready-clause-handled : goal.returns-in_err-ready-clause-handled
returns-in_err-ready-clause-handled g c bytes is =
    line-short c.args.number (Own c.args.view bytes) c.args.self.now.split c.args.self.now.split c.args.self.now.undo c.ready.new.self
    (g.K.Sink.state c.args.self.now.out.now) c.from_residual.result c.from_residual.ensures.1 refl

pub edited-requires : goal.edited-requires
edited-requires g c =
    let P : UndoParts → Type 0 = λ u. 0 < u.spare in subst P (sym c.reach.ensures.undo) c.in_ok-ready.ensures.room

pub refuse-requires : goal.refuse-requires
refuse-requires g c =
    let un : IsUnreached c.args.view c.args.number c.args.change.now c.args.batch.now c.args.self.now.split c.reach.new.self.split
    (faults.Refused c.in-Err-Refused.refusal) =
    subst (λ f. IsUnreached c.args.view c.args.number c.args.change.now c.args.batch.now c.args.self.now.split c.reach.new.self.split f)
    c.in-Err-Refused.field-0-is c.in-Err-Refused.ensures.unreached in
    subst (MayHandle c.args.view) (sym un.1) c.requires.may

pub returns-then-is_empty-clause-handled : goal.returns-then-is_empty-clause-handled
returns-then-is_empty-clause-handled g c =
    let hs = c.args.self.now.split in
    let undo = c.args.self.now.undo in
    let sink = g.K.Sink.state c.args.self.now.out.now in
    let ready : IsSameLine undo c.ready.new.self = record { past = c.ready.ensures.past; future = c.ready.ensures.future; line = c.ready.ensures.line } in
    let same : IsSameLine undo c.reach.new.self.undo = subst (IsSameLine undo) (sym c.reach.ensures.undo) ready in
    let none = edit-refused-as (present_of (history_of hs c.args.view)) (parts_of c.args.change.now) c.args.batch.now c.requires.batch ∙ c.in-Ok.ensures.accepted.accepted in
    let H : SinkState → Type 0 = λ s. HandlesOwn c.args.number c.args.view (change_verdict (history_of hs c.args.view) c.args.change.now)
    (at hs undo sink) (at c.reach.new.self.split c.reach.new.self.undo s) (Ok false) in
    subst H (sym c.reach.ensures.written)
    (edit-handled c.args.number c.args.view hs c.reach.new.self.split undo c.reach.new.self.undo sink c.args.change.now c.args.batch.now
    c.requires.may.there c.requires.batch c.in-Ok.ensures.accepted none c.in-Ok.ensures.done
    (silent-after hs c.args.view c.args.batch.now c.in-Ok.back.items undo c.reach.new.self.undo c.reach.new.self.undo same c.in-Ok.ensures.back
    (sym c.in-Ok.back.ok.0 ∙ eqb-true (vec_len c.in-Ok.back) 0 (sym c.is_empty.ensures ∙ c.if-is_empty.true))))

pub returns-else-is_empty-clause-handled : goal.returns-else-is_empty-clause-handled
returns-else-is_empty-clause-handled g c =
    let hs = c.args.self.now.split in
    let undo = c.args.self.now.undo in
    let sink = g.K.Sink.state c.args.self.now.out.now in
    let ready : IsSameLine undo c.ready.new.self = record { past = c.ready.ensures.past; future = c.ready.ensures.future; line = c.ready.ensures.line } in
    let same : IsSameLine undo c.reach.new.self.undo = subst (IsSameLine undo) (sym c.reach.ensures.undo) ready in
    let none = edit-refused-as (present_of (history_of hs c.args.view)) (parts_of c.args.change.now) c.args.batch.now c.requires.batch ∙ c.in-Ok.ensures.accepted.accepted in
    let H : SinkState → Type 0 = λ s. HandlesOwn c.args.number c.args.view (change_verdict (history_of hs c.args.view) c.args.change.now)
    (at hs undo sink) (at c.reach.new.self.split c.edited.new.self s) (Ok false) in
    subst H (sym c.reach.ensures.written)
    (edit-handled c.args.number c.args.view hs c.reach.new.self.split undo c.edited.new.self sink c.args.change.now c.args.batch.now
    c.requires.may.there c.requires.batch c.in-Ok.ensures.accepted none c.in-Ok.ensures.done
    (edited-after hs c.args.view c.args.batch.now c.in-Ok.back.items undo c.reach.new.self.undo c.edited.new.self same c.in-Ok.ensures.back
    (let some = positive (vec_len c.in-Ok.back) (eqb-false (vec_len c.in-Ok.back) 0 (sym c.is_empty.ensures ∙ c.if-is_empty.false)) in omega (arith, some, c.in-Ok.back.ok.0))
    c.in-Ok.ensures.leads c.edited.ensures.past c.edited.ensures.future c.edited.ensures.line))

pub returns-in-Err-Refused-clause-handled : goal.returns-in-Err-Refused-clause-handled
returns-in-Err-Refused-clause-handled g c =
    let un : IsUnreached c.args.view c.args.number c.args.change.now c.args.batch.now c.args.self.now.split c.reach.new.self.split
    (faults.Refused c.in-Err-Refused.refusal) =
    subst (λ f. IsUnreached c.args.view c.args.number c.args.change.now c.args.batch.now c.args.self.now.split c.reach.new.self.split f)
    c.in-Err-Refused.field-0-is c.in-Err-Refused.ensures.unreached in
    let undo = c.args.self.now.undo in
    let ready : IsSameLine undo c.ready.new.self = record { past = c.ready.ensures.past; future = c.ready.ensures.future; line = c.ready.ensures.line } in
    let same : IsSameLine undo c.reach.new.self.undo = subst (IsSameLine undo) (sym c.reach.ensures.undo) ready in
    let sink = g.K.Sink.state c.args.self.now.out.now in
    let H : SinkState → Type 0 = λ s. HandlesOwn c.args.number c.args.view (Refused c.in-Err-Refused.refusal)
    (at c.reach.new.self.split c.reach.new.self.undo s) (stage g.K.Sink.state c.refuse.new.self) c.refuse.result in
    change-refused c.args.number c.args.view c.args.self.now.split c.reach.new.self.split c.refuse.new.self.split undo c.reach.new.self.undo
    c.refuse.new.self.undo sink (g.K.Sink.state c.refuse.new.self.out.now) c.args.change.now c.in-Err-Refused.refusal c.refuse.result
    un.1 same un.0 (subst H c.reach.ensures.written c.refuse.ensures.handled)

pub returns-in-Err-NoMemory-clause-handled : goal.returns-in-Err-NoMemory-clause-handled
returns-in-Err-NoMemory-clause-handled g c =
    let hs = c.args.self.now.split in
    let undo = c.args.self.now.undo in
    let sink = g.K.Sink.state c.args.self.now.out.now in
    let H : SinkState → Type 0 = λ s. HandlesOwn c.args.number c.args.view (change_verdict (history_of hs c.args.view) c.args.change.now)
    (at hs undo sink) (at c.reach.new.self.split c.reach.new.self.undo s) (Err stops.Memory) in
    subst H (sym c.reach.ensures.written)
    (edit-short c.args.number c.args.view hs c.reach.new.self.split undo c.reach.new.self.undo sink c.args.change.now c.args.batch.now
    c.requires.may.there c.requires.batch (Err stops.Memory) refl
    (subst (λ f. IsUnreached c.args.view c.args.number c.args.change.now c.args.batch.now hs c.reach.new.self.split f)
    c.in-Err-NoMemory.field-0-is c.in-Err-NoMemory.ensures.unreached))
