-- The batch is done in every view, or in none, and published.
use Rattle.std.proofs.Common.{◌≡◌, inr, ◌+◌, ◌≤◌, All, ◌∷◌, None, length, slice_index_or, sym, ap, ◌∙◌, subst, arith}
use Rattle.std.specs.Prelude.{vec_len}
use Rattle.std.proofs.lemmas.Bool.{eqb-false, eqb-true}
use Rattle.std.proofs.lemmas.List.{length-map}
use Rattle.cell_units.specs.declared.fault.Fault.TheVariants as faults
use Rattle.display_map.specs.Events.{Did, Line, event_limit}
use Rattle.display_map.specs.Replay.{History, present_of}
use Rattle.display_sheet.specs.Changes.{batch, edit_refusal, ops_of, parts_of}
use Rattle.script_runner.proofs.LastLine.{dids}
use Rattle.split_views.specs.Views.{history_of}
use Rattle.undo_line.proofs.Inverses.{length-inverse}
use Rattle.split_runner.specs.Going.{IsAcceptedIn, IsUnreached}
use Rattle.split_runner.proofs.Edits.{batch-of-change}
use Rattle.split_runner.proofs.Reaching.{begun-done, begun-published, done-published, done-silent, edit-done, edit-refused-as, if-err, owed-unreached, positive, room-after}
use Rattle.split_runner.proofs.runner.Runner.reach.Goals as goal

pub apply-requires-clause-room : goal.apply-requires-clause-room
apply-requires-clause-room g c = λ k d lt.
    (let it : length (slice_index_or c.args.self.now.split k d).events + (length (ops_of c.args.change.now) + 2) ≤ event_limit = c.requires.room k d lt in
    omega (arith, it))

pub inverse-requires : goal.inverse-requires
inverse-requires g c =
    let E : History → Type 0 = λ h. edit_refusal (present_of h) c.args.batch.now ≡ None in
    subst E (sym c.requires.shown)
    (sym (edit-refused-as (present_of (history_of c.args.self.now.split c.args.view)) (parts_of c.args.change.now) c.args.batch.now c.requires.batch)
    ∙ c.in_ok-apply.ensures.accepted)

pub publish_all-requires : goal.publish_all-requires
publish_all-requires g c =
    let old = c.args.self.now.split in
    let ops = batch c.args.batch.now in
    let is = c.in_ok-apply.ensures.done ∙ edit-done old c.args.view c.args.number c.args.change.now c.args.batch.now c.requires.batch in
    let many : length (dids ops) ≡ length ops = length-map ops (λ op. Did op) in
    let same : length (ops_of c.args.change.now) ≡ length ops = ap length (batch-of-change (parts_of c.args.change.now) c.args.batch.now c.requires.batch) in
    subst (All (λ h. length h.events + 1 ≤ event_limit)) (sym is)
    (room-after old (length (ops_of c.args.change.now) + 1) 1 (Line c.args.number ∷ dids ops) (omega (arith, many, same))
    (λ k d lt.
    (let it : length (slice_index_or old k d).events + (length (ops_of c.args.change.now) + 2) ≤ event_limit = c.requires.room k d lt in
    omega (arith, it))))

pub returns-in_err-apply-clause-unreached : goal.returns-in_err-apply-clause-unreached
returns-in_err-apply-clause-unreached g c =
    if-err c.from_residual.result (IsUnreached c.args.view c.args.number c.args.change.now c.args.batch.now c.args.self.now.split c.apply.new.self)
    c.in_err-apply.field-0.0 c.from_residual.ensures.1
    (owed-unreached c.args.view c.args.number c.args.change.now c.args.batch.now c.args.self.now.split c.apply.new.self c.in_err-apply.field-0.0
    c.in_err-apply.ensures.refused c.in_err-apply.ensures.unchanged)

pub returns-in_err-back-clause-unreached : goal.returns-in_err-back-clause-unreached
returns-in_err-back-clause-unreached g c =
    let old = c.args.self.now.split in
    let is = c.in_ok-apply.ensures.done ∙ edit-done old c.args.view c.args.number c.args.change.now c.args.batch.now c.requires.batch in
    let accepted : IsAcceptedIn c.args.view c.args.batch.now old = record {
      utf8 = c.read_texts.ensures;
      accepted = sym (edit-refused-as (present_of (history_of old c.args.view)) (parts_of c.args.change.now) c.args.batch.now c.requires.batch)
          ∙ c.in_ok-apply.ensures.accepted;
    } in
    if-err c.from_residual-in_err-back.result (IsUnreached c.args.view c.args.number c.args.change.now c.args.batch.now old c.apply.new.self)
    faults.NoMemory c.from_residual-in_err-back.ensures.1
    (inr (begun-done c.args.view c.args.number c.args.batch.now old c.apply.new.self accepted is))

pub returns-in_err-publish_all-clause-unreached : goal.returns-in_err-publish_all-clause-unreached
returns-in_err-publish_all-clause-unreached g c =
    let old = c.args.self.now.split in
    let is = c.in_ok-apply.ensures.done ∙ edit-done old c.args.view c.args.number c.args.change.now c.args.batch.now c.requires.batch in
    let accepted : IsAcceptedIn c.args.view c.args.batch.now old = record {
      utf8 = c.read_texts.ensures;
      accepted = sym (edit-refused-as (present_of (history_of old c.args.view)) (parts_of c.args.change.now) c.args.batch.now c.requires.batch)
          ∙ c.in_ok-apply.ensures.accepted;
    } in
    if-err c.from_residual-in_err-publish_all.result (IsUnreached c.args.view c.args.number c.args.change.now c.args.batch.now old c.publish_all.new.self)
    faults.NoMemory c.from_residual-in_err-publish_all.ensures.1
    (inr (begun-published c.args.view c.args.number c.args.batch.now old c.apply.new.self c.publish_all.new.self accepted is
    (let some = positive (vec_len c.in_ok-back.back) (eqb-false (vec_len c.in_ok-back.back) 0 (sym c.is_empty.ensures ∙ c.if-is_empty.false)) in
    let count = ap length c.in_ok-back.ensures.inverse ∙ length-inverse (present_of c.args.shown.now).text c.args.batch.now in
    omega (arith, some, count, c.in_ok-back.back.ok.0))
    c.in_err-publish_all.ensures.some))

pub returns-then-is_empty-clause-done : goal.returns-then-is_empty-clause-done
returns-then-is_empty-clause-done g c =
    let old = c.args.self.now.split in
    let is = c.in_ok-apply.ensures.done ∙ edit-done old c.args.view c.args.number c.args.change.now c.args.batch.now c.requires.batch in
    done-silent c.args.number c.args.batch.now old c.apply.new.self is
    (let none = eqb-true (vec_len c.in_ok-back.back) 0 (sym c.is_empty.ensures ∙ c.if-is_empty.true) in
    let count = ap length c.in_ok-back.ensures.inverse ∙ length-inverse (present_of c.args.shown.now).text c.args.batch.now in
    omega (arith, none, count, c.in_ok-back.back.ok.0))

pub returns-clause-done : goal.returns-clause-done
returns-clause-done g c =
    let old = c.args.self.now.split in
    let is = c.in_ok-apply.ensures.done ∙ edit-done old c.args.view c.args.number c.args.change.now c.args.batch.now c.requires.batch in
    done-published c.args.number c.args.batch.now old c.apply.new.self c.publish_all.new.self is
    (let some = positive (vec_len c.in_ok-back.back) (eqb-false (vec_len c.in_ok-back.back) 0 (sym c.is_empty.ensures ∙ c.if-is_empty.false)) in
    let count = ap length c.in_ok-back.ensures.inverse ∙ length-inverse (present_of c.args.shown.now).text c.args.batch.now in
    omega (arith, some, count, c.in_ok-back.back.ok.0))
    c.in_ok-publish_all.ensures.published
