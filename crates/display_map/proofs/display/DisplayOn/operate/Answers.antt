use Rattle.std.proofs.Common.{◌∷◌, [], ◌++◌, ap, subst, ◌∙◌}
use Rattle.cell_units.specs.Operation.{Operation}
use Rattle.plain_rows.specs.Reach.{WorksAtMost}
use Rattle.display_sheet.specs.Changes.{operation_of}
use Rattle.display_map.specs.Events.{Did}
use Rattle.display_map.specs.Replay.{History, present_of}
use Rattle.display_map.proofs.EditedDisplays.{is-kept, kept-operated}
use Rattle.display_map.proofs.StampedWorks.{works-stamped}
use Rattle.display_map.proofs.display.DisplayOn.operate.Goals as goal

pub one-requires-clause-kept : goal.one-requires-clause-kept
one-requires-clause-kept g c =
    let d = c.self.inside in
    is-kept (record { opening = (g.S.Sheet.kept d.opening).text; events = d.journal }) (g.S.Sheet.kept d.sheet) d.outs.items d.versions d.jobs d.first c.self.invariant
    c.deref.result.now c.deref.ensures.value

pub invariant_of-self-2 : goal.invariant_of-self-2
invariant_of-self-2 g c =
    let d = c.self.inside in
    kept-operated (record { opening = (g.S.Sheet.kept d.opening).text; events = d.journal }) (g.S.Sheet.kept d.sheet) d.outs.items d.versions d.jobs d.first c.self.invariant
    c.args.op.now c.deref.result.now (g.S.Sheet.kept c.in_ok-work.work.sheet) c.in_ok-work.work.outs.items c.push.new.self c.requires.other c.deref.ensures.value c.in_ok-work.ensures.done
    (c.in_ok-push.ensures.appended ∙ ap (λ (op : Operation). d.journal ++ Did op ∷ []) c.in_ok-op.ensures)

pub returns-in_err-work-clause-steps : goal.returns-in_err-work-clause-steps
returns-in_err-work-clause-steps g c =
    let d = c.self.inside in
    let r = g.S.Sheet.kept d.sheet in
    let h : History = record { opening = (g.S.Sheet.kept d.opening).text; events = d.journal } in
    let operation = operation_of c.args.op.now in
    subst (λ (h : History). WorksAtMost operation (present_of h) c.args.steps.now c.one.new.steps) c.self.view_is
    (works-stamped operation (present_of h) r c.args.steps.now c.one.new.steps c.self.invariant.kept.sheet_is c.one.ensures.steps)

pub returns-in_err-op-clause-steps : goal.returns-in_err-op-clause-steps
returns-in_err-op-clause-steps g c =
    let d = c.self.inside in
    let r = g.S.Sheet.kept d.sheet in
    let h : History = record { opening = (g.S.Sheet.kept d.opening).text; events = d.journal } in
    let operation = operation_of c.args.op.now in
    subst (λ (h : History). WorksAtMost operation (present_of h) c.args.steps.now c.one.new.steps) c.self.view_is
    (works-stamped operation (present_of h) r c.args.steps.now c.one.new.steps c.self.invariant.kept.sheet_is c.one.ensures.steps)

pub returns-in_err-push-clause-steps : goal.returns-in_err-push-clause-steps
returns-in_err-push-clause-steps g c =
    let d = c.self.inside in
    let r = g.S.Sheet.kept d.sheet in
    let h : History = record { opening = (g.S.Sheet.kept d.opening).text; events = d.journal } in
    let operation = operation_of c.args.op.now in
    subst (λ (h : History). WorksAtMost operation (present_of h) c.args.steps.now c.one.new.steps) c.self.view_is
    (works-stamped operation (present_of h) r c.args.steps.now c.one.new.steps c.self.invariant.kept.sheet_is c.one.ensures.steps)

pub returns-clause-steps : goal.returns-clause-steps
returns-clause-steps g c =
    let d = c.self.inside in
    let r = g.S.Sheet.kept d.sheet in
    let h : History = record { opening = (g.S.Sheet.kept d.opening).text; events = d.journal } in
    let operation = operation_of c.args.op.now in
    subst (λ (h : History). WorksAtMost operation (present_of h) c.args.steps.now c.one.new.steps) c.self.view_is
    (works-stamped operation (present_of h) r c.args.steps.now c.one.new.steps c.self.invariant.kept.sheet_is c.one.ensures.steps)
