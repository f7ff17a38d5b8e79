use Rattle.std.proofs.Common.{rules, ◌≡◌, [], ◌∷◌, None, IfErr, ap, subst, ◌∙◌}
use Rattle.cell_units.specs.Record.{Record}
use Rattle.cell_units.specs.declared.fault.Fault.TheVariants as faults
use Rattle.display_sheet.specs.Changes.{change_refusal}
use Rattle.display_map.specs.Events.{Line}
use Rattle.display_map.specs.Prepared.{IsOwed}
use Rattle.display_map.specs.Replay.{History, appended, present_of}
use Rattle.display_map.proofs.EditedDisplays.{err-same}
use Rattle.display_map.proofs.Noted.{owed-as, present-noted}
use Rattle.display_map.proofs.display.DisplayOn.prepare.Goals as goal

pub returns-in_err-before-clause-refused : goal.returns-in_err-before-clause-refused
returns-in_err-before-clause-refused g c =
    err-same c.from_residual.result faults.NoMemory (IsOwed (change_refusal (present_of c.args.self.now) c.args.change.now)) c.from_residual.ensures.1 tt

pub returns-in_err-display-clause-refused : goal.returns-in_err-display-clause-refused
returns-in_err-display-clause-refused g c =
    err-same c.from_residual-in_err-display.result faults.NoMemory (IsOwed (change_refusal (present_of c.args.self.now) c.args.change.now)) c.from_residual-in_err-display.ensures.1 tt

pub returns-in_err-note_line-clause-refused : goal.returns-in_err-note_line-clause-refused
returns-in_err-note_line-clause-refused g c =
    err-same c.from_residual-in_err-note_line.result faults.NoMemory (IsOwed (change_refusal (present_of c.args.self.now) c.args.change.now)) c.from_residual-in_err-note_line.ensures.1 tt

pub returns-in_err-apply-clause-refused : goal.returns-in_err-apply-clause-refused
returns-in_err-apply-clause-refused g c =
    let same : present_of c.note_line.new.self ≡ present_of c.args.self.now =
    ap present_of (c.in_ok-note_line.ensures.noted ∙ ap (λ (h : History). appended h (Line c.args.number ∷ [])) c.in_ok-display.ensures)
    ∙ present-noted c.args.self.now c.args.number in
    subst (λ (r : Record). IfErr c.from_residual-in_err-apply.result (IsOwed (change_refusal r c.args.change.now))) same
    (err-same c.from_residual-in_err-apply.result c.in_err-apply.field-0.0 (IsOwed (change_refusal (present_of c.note_line.new.self) c.args.change.now))
    c.from_residual-in_err-apply.ensures.1
    (owed-as (change_refusal (present_of c.note_line.new.self) c.args.change.now) c.in_err-apply.field-0.0 c.in_err-apply.ensures.refused))

pub returns-clause-accepted : goal.returns-clause-accepted
returns-clause-accepted g c =
    let same : present_of c.note_line.new.self ≡ present_of c.args.self.now =
    ap present_of (c.in_ok-note_line.ensures.noted ∙ ap (λ (h : History). appended h (Line c.args.number ∷ [])) c.in_ok-display.ensures)
    ∙ present-noted c.args.self.now c.args.number in
    subst (λ (r : Record). change_refusal r c.args.change.now ≡ None) same c.in_ok-apply.ensures.accepted
