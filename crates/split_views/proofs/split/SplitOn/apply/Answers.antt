use Rattle.std.proofs.Common.{◌≡◌, List, length, sym, ap, ◌∙◌, subst, arith, None}
use Rattle.std.specs.Prelude.{OnOk, IfErr}
use Rattle.display_sheet.specs.Changes.{change_refusal, parts_of}
use Rattle.display_map.specs.Prepared.{IsOwed}
use Rattle.display_map.specs.Replay.{History, present_of}
use Rattle.split_views.specs.Views.{added, history_of}
use Rattle.split_views.proofs.Keeping.{kept-in_each, kept-in_one, on_ok-map, owes-none, still-appended}
use Rattle.split_views.proofs.OneText.{owe-alike}
use Rattle.split_views.proofs.Texts.{text-kept}
use Rattle.split_views.proofs.split.SplitOn.apply.Goals as goal

pub invariant_of-self : goal.invariant_of-self
invariant_of-self g c =
    let d = c.self.inside in
    kept-in_each c.apply.result d.displays.items c.apply.new.displays.items d.journals (added c.args.number c.args.change.now) c.apply.ensures.done c.apply.ensures.unchanged c.self.invariant

pub invariant_of-self-else-is_edit : goal.invariant_of-self-else-is_edit
invariant_of-self-else-is_edit g c =
    let d = c.self.inside in
    let h = c.index_mut.result.now in
    kept-in_one d.displays.items d.journals c.args.view h c.apply_one.new.display (omega (arith, c.requires.view, ap length c.self.view_is)) c.index_mut.ensures.value
    (still-appended c.apply_one.result h c.apply_one.new.display (added c.args.number c.args.change.now)
    (λ text. text-kept text c.args.number (parts_of c.args.change.now) (sym c.is_edit.ensures ∙ c.if-is_edit.false)) c.apply_one.ensures.done c.apply_one.ensures.unchanged)
    c.self.invariant

pub returns-then-is_edit-clause-accepted : goal.returns-then-is_edit-clause-accepted
returns-then-is_edit-clause-accepted g c =
    let hs = c.self.inside.displays.items in
    subst (λ (hs : List History). OnOk c.apply.result (change_refusal (present_of (history_of hs c.args.view)) c.args.change.now ≡ None)) c.self.view_is
    (on_ok-map c.apply.result (owes-none hs c.args.view c.args.change.now (omega (arith, c.requires.view, ap length c.self.view_is))) c.apply.ensures.accepted)

pub returns-then-is_edit-clause-refused : goal.returns-then-is_edit-clause-refused
returns-then-is_edit-clause-refused g c =
    let hs = c.self.inside.displays.items in
    subst (λ (hs : List History). IfErr c.apply.result (IsOwed (change_refusal (present_of (history_of hs c.args.view)) c.args.change.now))) c.self.view_is
    (c.apply.ensures.refused (change_refusal (present_of (history_of hs c.args.view)) c.args.change.now)
    (owe-alike hs c.args.view c.args.change.now (omega (arith, c.requires.view, ap length c.self.view_is)) (sym c.is_edit.ensures ∙ c.if-is_edit.true) c.self.invariant.one_text))
