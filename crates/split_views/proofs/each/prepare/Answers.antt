use Rattle.std.proofs.Common.{◌≡◌, List, None, Option, map, ap, ◌∙◌, subst, arith}
use Rattle.std.specs.List.{All}
use Rattle.std.proofs.lemmas.List.{take_all}
use Rattle.std.proofs.lemmas.List.Elements.{All-more}
use Rattle.cell_units.specs.declared.fault.Refusal.{Refusal}
use Rattle.display_sheet.specs.Changes.{change_refusal}
use Rattle.display_map.specs.Prepared.{IsOwed, PreparedParts}
use Rattle.display_map.specs.Replay.{History, appended, present_of}
use Rattle.display_map.proofs.EditedDisplays.{err-same}
use Rattle.split_views.specs.Views.{added}
use Rattle.split_views.proofs.Taken.{after-more, before-more}
use Rattle.split_views.proofs.each.prepare.Goals as goal

pub returns-in_err-prepare-clause-refused : goal.returns-in_err-prepare-clause-refused
returns-in_err-prepare-clause-refused g c = λ owed all.
    let i = c.loop-display.display-index in
    let h = c.display-item.result in
    let owes : change_refusal (present_of h) c.args.change.now ≡ owed =
    ap (λ (k : History). change_refusal (present_of k) c.args.change.now) c.display-item.is ∙ all i h c.loop-display-test.true in
    err-same c.from_residual-in_err-prepare.result c.in_err-prepare.field-0.0 (IsOwed owed) c.from_residual-in_err-prepare.ensures.1
    (subst (λ (o : Option Refusal). IsOwed o c.in_err-prepare.field-0.0) owes c.in_err-prepare.ensures.refused)

pub loop-display-preserved : goal.loop-display-preserved
loop-display-preserved g c =
    let hs = c.args.displays.now in
    let i = c.loop-display.display-index in
    let h = c.display-item.result in
    let f : History → History = λ (k : History). appended k (added c.args.number c.args.change.now) in
    let lt = c.loop-display-test.true in
    let so_far = c.loop-display.invariant in
    let next = c.in_ok-prepare.field-0 in
    let pushed = c.push_reserved.ensures in
    record {
      len = omega (arith, pushed.len, so_far.len);
      room = pushed.capacity ∙ so_far.room;
      before = ap (map (λ (r : PreparedParts). r.before)) pushed.items ∙ before-more c.loop-display.ready.items next hs i h lt so_far.before (c.in_ok-prepare.ensures.before ∙ c.display-item.is);
      after = ap (map (λ (r : PreparedParts). r.after)) pushed.items ∙ after-more f c.loop-display.ready.items next hs i h lt so_far.after (c.in_ok-prepare.ensures.after ∙ ap f c.display-item.is);
      accepted = All-more (λ (k : History). change_refusal (present_of k) c.args.change.now ≡ None) hs i h lt so_far.accepted
          (subst (λ (k : History). change_refusal (present_of k) c.args.change.now ≡ None) c.display-item.is c.in_ok-prepare.ensures.accepted);
      counted = omega (arith, so_far.counted, c.in_ok-prepare.ensures.counted);
    }

pub returns-clause-accepted : goal.returns-clause-accepted
returns-clause-accepted g c =
    subst (λ (hs : List History). All (λ (k : History). change_refusal (present_of k) c.args.change.now ≡ None) hs)
    (take_all c.loop-display.display-index c.args.displays.now (omega (arith, c.loop-display-test.false)))
    c.loop-display.invariant.accepted

pub returns-clause-after : goal.returns-clause-after
returns-clause-after g c =
    c.loop-display.invariant.after
    ∙ ap (map (λ (k : History). appended k (added c.args.number c.args.change.now)))
    (take_all c.loop-display.display-index c.args.displays.now (omega (arith, c.loop-display-test.false)))
