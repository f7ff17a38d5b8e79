use Rattle.std.proofs.Common.{◌≡◌, ◌==◌, ◌∙◌, length, Option, None, true, ap, refl, sym, subst}
use Rattle.std.specs.List.{Contains, list_any}
use Rattle.cell_units.specs.declared.fault.Fault.TheVariants.{Refused}
use Rattle.cell_units.specs.declared.fault.Refusal.{Refusal}
use Rattle.cell_units.specs.declared.fault.Refusal.TheVariants.{UnknownId}
use Rattle.cell_units.specs.Layers.{Source, unfolded}
use Rattle.cell_units.specs.Operation.{RemoveInlay}
use Rattle.inlay_map.specs.Maps.{InlayState, IsOwed, remove_refusal, removed}
use Rattle.inlay_map.proofs.Refusals.{known-id, owed-memory, unknown-id}
use Rattle.inlay_map.proofs.Sent.{sent}
use Rattle.fold_map.specs.Maps.{FoldState, state_of}
use Rattle.sum_tree.specs.Bounds.{Searches}
use Rattle.inlay_map.specs.Bounds.{SearchesOnce, changing}
use Rattle.layered_text.specs.Bounds.{LaysAtMost}
use Rattle.layered_text.specs.inside.Kept.{AreTold, inlays_of}
use Rattle.layered_text.proofs.LaidSteps.{lays-removed, lays-sought_inlay}
use Rattle.layered_text.proofs.ShownSteps.{shows-none}
use Rattle.layered_text.proofs.Tellings.{told-removed}
use Rattle.layered_text.proofs.text.LayeredText.without_inlay.Goals as goal
use Rattle.layered_text.proofs.text.LayeredText.without_inlay.Goals.{After-has_id, After-remove, After-share-2}

-- it is looked for in the source
sought : (c : After-has_id) → c.has_id.result ≡ list_any (λ i. i.id == c.args.id) c.args.self.now.inlays
sought c =
    c.has_id.ensures.value ∙ ap (λ (v : Source). list_any (λ i. i.id == c.args.id) v.inlays) (c.self.invariant.inlaid_is ∙ ap unfolded c.self.view_is)

pub returns-then-not-has_id-clause-refused : goal.returns-then-not-has_id-clause-refused
returns-then-not-has_id-clause-refused c =
    subst (λ (o : Option Refusal). IsOwed o (Refused UnknownId))
    (unknown-id c.args.self.now c.args.id (sym (sought (goal.at.returns-then-not-has_id-clause-refused c).After-has_id) ∙ c.if-not-has_id.true)) refl

pub returns-in_err-inlays-clause-refused : goal.returns-in_err-inlays-clause-refused
returns-in_err-inlays-clause-refused c =
    owed-memory (remove_refusal c.args.self.now c.args.id) c.from_residual.result
    (known-id c.args.self.now c.args.id (sym (sought (goal.at.returns-in_err-inlays-clause-refused c).After-has_id) ∙ c.if-not-has_id.false)) c.from_residual.ensures.1

pub returns-in_err-folds-clause-refused : goal.returns-in_err-folds-clause-refused
returns-in_err-folds-clause-refused c =
    owed-memory (remove_refusal c.args.self.now c.args.id) c.from_residual-in_err-folds.result
    (known-id c.args.self.now c.args.id (sym (sought (goal.at.returns-in_err-folds-clause-refused c).After-has_id) ∙ c.if-not-has_id.false)) c.from_residual-in_err-folds.ensures.1

pub returns-in_err-turned-clause-refused : goal.returns-in_err-turned-clause-refused
returns-in_err-turned-clause-refused c =
    owed-memory (remove_refusal c.args.self.now c.args.id) c.from_residual-in_err-turned.result
    (known-id c.args.self.now c.args.id (sym (sought (goal.at.returns-in_err-turned-clause-refused c).After-has_id) ∙ c.if-not-has_id.false)) c.from_residual-in_err-turned.ensures.1

pub share-requires-2-send-L : goal.share-requires-2-send-L
share-requires-2-send-L c κs = search sent depth 60 fits 20000

pub share-requires-2-sync-L : goal.share-requires-2-sync-L
share-requires-2-sync-L c κs = search sent depth 60 fits 20000

-- the map of inlays has one less
told : (c : After-share-2) (folds : FoldState) → folds ≡ c.self.inside.folds → list_any (λ i. i.id == c.args.id) c.args.self.now.inlays ≡ true
    → AreTold (RemoveInlay c.args.id) c.args.self.now c.args.self.now.text c.remove.new.self folds None
told c folds shared there =
    let was = c.in_ok-inlays.ensures ∙ c.self.invariant.inlays_are ∙ ap inlays_of c.self.view_is in
    told-removed c.args.self.now c.remove.new.self folds c.args.id there
    (λ i has is. c.in_ok-remove.ensures.ok i (subst (λ (m : InlayState). Contains m.current.inlays i) (sym was) has) is ∙ ap (removed i) was)
    (shared ∙ c.self.invariant.folds_are ∙ ap state_of c.self.view_is)

pub turned-requires : goal.turned-requires
turned-requires c =
    let a = goal.at.turned-requires c in
    (RemoveInlay c.args.id, told a.After-share-2 c.in_ok-folds.folds c.in_ok-folds.ensures (sym (sought a.After-has_id) ∙ c.if-not-has_id.false))

pub returns-clause-changed : goal.returns-clause-changed
returns-clause-changed c =
    let a = goal.at.returns-clause-changed c in
    c.in_ok-turned.ensures.changed (RemoveInlay c.args.id)
    (told a.After-share-2 c.in_ok-folds.folds c.in_ok-folds.ensures (sym (sought a.After-has_id) ∙ c.if-not-has_id.false))

pub returns-clause-accepted : goal.returns-clause-accepted
returns-clause-accepted c =
    sym (known-id c.args.self.now c.args.id (sym (sought (goal.at.returns-clause-accepted c).After-has_id) ∙ c.if-not-has_id.false))

-- ---- steps

-- those in which its id is looked for
looked : (c : After-has_id) → Searches (length c.args.self.now.inlays) c.args.steps.now c.has_id.new.steps
looked c =
    subst (λ (v : Source). Searches (length v.inlays) c.args.steps.now c.has_id.new.steps)
    (c.self.invariant.inlaid_is ∙ ap unfolded c.self.view_is) c.has_id.ensures.steps

looked-only : (c : After-has_id) → LaysAtMost (RemoveInlay c.args.id) c.args.self.now c.args.steps.now c.has_id.new.steps
looked-only c = lays-sought_inlay c.args.self.now c.args.id c.args.steps.now c.has_id.new.steps (looked c)

-- and then it is taken off
taken : (c : After-remove) → SearchesOnce changing c.args.self.now.text (length c.args.self.now.inlays) c.has_id.new.steps c.remove.new.steps
taken c =
    subst (λ (m : InlayState). SearchesOnce changing m.current.text (length m.current.inlays) c.has_id.new.steps c.remove.new.steps)
    (c.in_ok-inlays.ensures ∙ c.self.invariant.inlays_are ∙ ap inlays_of c.self.view_is) c.remove.ensures.steps

taken-only : (c : After-remove) → Searches (length c.args.self.now.inlays) c.args.steps.now c.has_id.new.steps
    → LaysAtMost (RemoveInlay c.args.id) c.args.self.now c.args.steps.now c.remove.new.steps
taken-only c first =
    lays-removed c.args.self.now c.args.id c.args.steps.now c.has_id.new.steps c.remove.new.steps c.remove.new.steps first (taken c)
    (shows-none (RemoveInlay c.args.id) c.args.self.now c.remove.new.steps)

pub returns-then-not-has_id-clause-steps : goal.returns-then-not-has_id-clause-steps
returns-then-not-has_id-clause-steps c = looked-only (goal.at.returns-then-not-has_id-clause-steps c).After-has_id

pub returns-in_err-inlays-clause-steps : goal.returns-in_err-inlays-clause-steps
returns-in_err-inlays-clause-steps c = looked-only (goal.at.returns-in_err-inlays-clause-steps c).After-has_id

pub returns-in_err-remove-clause-steps : goal.returns-in_err-remove-clause-steps
returns-in_err-remove-clause-steps c =
    let a = goal.at.returns-in_err-remove-clause-steps c in taken-only a.After-remove (looked a.After-has_id)

pub returns-in_err-folds-clause-steps : goal.returns-in_err-folds-clause-steps
returns-in_err-folds-clause-steps c =
    let a = goal.at.returns-in_err-folds-clause-steps c in taken-only a.After-remove (looked a.After-has_id)

pub returns-in_err-turned-clause-steps : goal.returns-in_err-turned-clause-steps
returns-in_err-turned-clause-steps c =
    let a = goal.at.returns-in_err-turned-clause-steps c in
    lays-removed c.args.self.now c.args.id c.args.steps.now c.has_id.new.steps c.remove.new.steps c.turned.new.steps (looked a.After-has_id) (taken a.After-remove)
    (c.turned.ensures.steps (RemoveInlay c.args.id)
    (told a.After-share-2 c.in_ok-folds.folds c.in_ok-folds.ensures (sym (sought a.After-has_id) ∙ c.if-not-has_id.false)))

pub returns-clause-steps : goal.returns-clause-steps
returns-clause-steps c =
    let a = goal.at.returns-clause-steps c in
    lays-removed c.args.self.now c.args.id c.args.steps.now c.has_id.new.steps c.remove.new.steps c.turned.new.steps (looked a.After-has_id) (taken a.After-remove)
    (c.turned.ensures.steps (RemoveInlay c.args.id)
    (told a.After-share-2 c.in_ok-folds.folds c.in_ok-folds.ensures (sym (sought a.After-has_id) ∙ c.if-not-has_id.false)))
