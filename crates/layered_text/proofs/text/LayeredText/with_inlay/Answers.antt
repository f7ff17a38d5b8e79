use Rattle.std.proofs.Common.{◌≡◌, ◌∙◌, ◌+◌, length, Option, None, ap, refl, sym, subst}
use Rattle.cell_units.specs.declared.fault.Fault.TheVariants.{Refused}
use Rattle.cell_units.specs.declared.fault.Refusal.{Refusal}
use Rattle.cell_units.specs.Text.{IsText}
use Rattle.cell_units.specs.Layers.{Source, unfolded}
use Rattle.cell_units.specs.Operation.{AddInlay}
use Rattle.inlay_map.specs.Maps.{InlayState, IsOwed, add_refusal, added, inlay_with}
use Rattle.inlay_map.proofs.Refusals.{owed-memory}
use Rattle.inlay_map.proofs.Sent.{sent}
use Rattle.fold_map.specs.Maps.{FoldState, state_of}
use Rattle.text_rope.specs.Bounds.{ways}
use Rattle.inlay_map.specs.Bounds.{SearchesOnce, changing}
use Rattle.layered_text.specs.Bounds.{LaysAtMost}
use Rattle.layered_text.specs.inside.Kept.{AreTold, inlays_of}
use Rattle.layered_text.proofs.LaidSteps.{lays-added, lays-judged_inlay}
use Rattle.layered_text.proofs.ShownSteps.{shows-none}
use Rattle.layered_text.proofs.Tellings.{told-added}
use Rattle.layered_text.proofs.text.LayeredText.with_inlay.Goals as goal
use Rattle.layered_text.proofs.text.LayeredText.with_inlay.Goals.{After-insert, After-refusal_to_add, After-share-2}

-- the refusal is the one of the source
same : (c : After-refusal_to_add) →
    add_refusal c.self.inside.inlaid c.args.id c.args.offset c.args.text.now ≡ add_refusal c.args.self.now c.args.id c.args.offset c.args.text.now
same c =
    ap (λ (v : Source). add_refusal v c.args.id c.args.offset c.args.text.now) (c.self.invariant.inlaid_is ∙ ap unfolded c.self.view_is)

pub returns-in-Some-clause-refused : goal.returns-in-Some-clause-refused
returns-in-Some-clause-refused c =
    subst (λ (o : Option Refusal). IsOwed o (Refused c.in-Some.refusal)) (c.in-Some.ensures.refusal ∙ same (goal.at.returns-in-Some-clause-refused c).After-refusal_to_add) refl

pub returns-in_err-inlays-clause-refused : goal.returns-in_err-inlays-clause-refused
returns-in_err-inlays-clause-refused c =
    owed-memory (add_refusal c.args.self.now c.args.id c.args.offset c.args.text.now) c.from_residual.result
    (c.in_default.ensures.refusal ∙ same (goal.at.returns-in_err-inlays-clause-refused c).After-refusal_to_add) c.from_residual.ensures.1

pub returns-in_err-folds-clause-refused : goal.returns-in_err-folds-clause-refused
returns-in_err-folds-clause-refused c =
    owed-memory (add_refusal c.args.self.now c.args.id c.args.offset c.args.text.now) c.from_residual-in_err-folds.result
    (c.in_default.ensures.refusal ∙ same (goal.at.returns-in_err-folds-clause-refused c).After-refusal_to_add) c.from_residual-in_err-folds.ensures.1

pub share-requires-2-send-L : goal.share-requires-2-send-L
share-requires-2-send-L c κs = search sent depth 60 fits 20000

pub share-requires-2-sync-L : goal.share-requires-2-sync-L
share-requires-2-sync-L c κs = search sent depth 60 fits 20000

pub returns-in_err-turned-clause-refused : goal.returns-in_err-turned-clause-refused
returns-in_err-turned-clause-refused c =
    owed-memory (add_refusal c.args.self.now c.args.id c.args.offset c.args.text.now) c.from_residual-in_err-turned.result
    (c.in_default.ensures.refusal ∙ same (goal.at.returns-in_err-turned-clause-refused c).After-refusal_to_add) c.from_residual-in_err-turned.ensures.1

-- the map of inlays has one more
told : (c : After-share-2) (folds : FoldState) → folds ≡ c.self.inside.folds → add_refusal c.args.self.now c.args.id c.args.offset c.args.text.now ≡ None
    → AreTold (AddInlay (inlay_with c.args.id c.args.offset c.args.bias c.args.text.now)) c.args.self.now c.args.self.now.text c.insert.new.self folds None
told c folds shared none =
    let i = inlay_with c.args.id c.args.offset c.args.bias c.args.text.now in
    told-added c.args.self.now c.insert.new.self folds i
    (subst IsText (c.self.invariant.rope_is ∙ ap (λ (v : Source). v.text) c.self.view_is) c.len-len.ensures.text)
    c.utf8.text none
    (c.in_ok-insert.ensures.ok ∙ ap (added i) (c.in_ok-inlays.ensures ∙ c.self.invariant.inlays_are ∙ ap inlays_of c.self.view_is))
    (shared ∙ c.self.invariant.folds_are ∙ ap state_of c.self.view_is)

pub turned-requires : goal.turned-requires
turned-requires c = (
  AddInlay (inlay_with c.args.id c.args.offset c.args.bias c.args.text.now),
  told (goal.at.turned-requires c).After-share-2 c.in_ok-folds.folds c.in_ok-folds.ensures
      (sym (c.in_default.ensures.refusal ∙ same (goal.at.turned-requires c).After-refusal_to_add)),
)

pub returns-clause-changed : goal.returns-clause-changed
returns-clause-changed c =
    c.in_ok-turned.ensures.changed (AddInlay (inlay_with c.args.id c.args.offset c.args.bias c.args.text.now))
    (told (goal.at.returns-clause-changed c).After-share-2 c.in_ok-folds.folds c.in_ok-folds.ensures
    (sym (c.in_default.ensures.refusal ∙ same (goal.at.returns-clause-changed c).After-refusal_to_add)))

pub returns-clause-accepted : goal.returns-clause-accepted
returns-clause-accepted c = sym (c.in_default.ensures.refusal ∙ same (goal.at.returns-clause-accepted c).After-refusal_to_add)

-- ---- steps

-- those in which it is judged
judged : (c : After-refusal_to_add) → SearchesOnce (ways 2) c.args.self.now.text (length c.args.self.now.inlays) c.args.steps.now c.refusal_to_add.new.steps
judged c =
    subst (λ (v : Source). SearchesOnce (ways 2) v.text (length v.inlays) c.args.steps.now c.refusal_to_add.new.steps)
    (c.self.invariant.inlaid_is ∙ ap unfolded c.self.view_is) c.refusal_to_add.ensures.steps

judged-only : (c : After-refusal_to_add) → LaysAtMost (AddInlay (inlay_with c.args.id c.args.offset c.args.bias c.args.text.now)) c.args.self.now c.args.steps.now c.refusal_to_add.new.steps
judged-only c =
    lays-judged_inlay c.args.self.now (inlay_with c.args.id c.args.offset c.args.bias c.args.text.now) c.args.steps.now c.refusal_to_add.new.steps (judged c)

-- and then it is added
put : (c : After-insert) → SearchesOnce changing c.args.self.now.text (length c.args.self.now.inlays + 1) c.refusal_to_add.new.steps c.insert.new.steps
put c =
    subst (λ (m : InlayState). SearchesOnce changing m.current.text (length m.current.inlays + 1) c.refusal_to_add.new.steps c.insert.new.steps)
    (c.in_ok-inlays.ensures ∙ c.self.invariant.inlays_are ∙ ap inlays_of c.self.view_is) c.insert.ensures.steps

put-only : (c : After-insert) → SearchesOnce (ways 2) c.args.self.now.text (length c.args.self.now.inlays) c.args.steps.now c.refusal_to_add.new.steps
    → LaysAtMost (AddInlay (inlay_with c.args.id c.args.offset c.args.bias c.args.text.now)) c.args.self.now c.args.steps.now c.insert.new.steps
put-only c first =
    let i = inlay_with c.args.id c.args.offset c.args.bias c.args.text.now in
    lays-added c.args.self.now i c.args.steps.now c.refusal_to_add.new.steps c.insert.new.steps c.insert.new.steps first (put c)
    (shows-none (AddInlay i) c.args.self.now c.insert.new.steps)

pub returns-in-Some-clause-steps : goal.returns-in-Some-clause-steps
returns-in-Some-clause-steps c = judged-only (goal.at.returns-in-Some-clause-steps c).After-refusal_to_add

pub returns-in_err-inlays-clause-steps : goal.returns-in_err-inlays-clause-steps
returns-in_err-inlays-clause-steps c = judged-only (goal.at.returns-in_err-inlays-clause-steps c).After-refusal_to_add

pub returns-in_err-insert-clause-steps : goal.returns-in_err-insert-clause-steps
returns-in_err-insert-clause-steps c =
    let a = goal.at.returns-in_err-insert-clause-steps c in put-only a.After-insert (judged a.After-refusal_to_add)

pub returns-in_err-folds-clause-steps : goal.returns-in_err-folds-clause-steps
returns-in_err-folds-clause-steps c =
    let a = goal.at.returns-in_err-folds-clause-steps c in put-only a.After-insert (judged a.After-refusal_to_add)

pub returns-in_err-turned-clause-steps : goal.returns-in_err-turned-clause-steps
returns-in_err-turned-clause-steps c =
    let a = goal.at.returns-in_err-turned-clause-steps c in
    let i = inlay_with c.args.id c.args.offset c.args.bias c.args.text.now in
    lays-added c.args.self.now i c.args.steps.now c.refusal_to_add.new.steps c.insert.new.steps c.turned.new.steps (judged a.After-refusal_to_add) (put a.After-insert)
    (c.turned.ensures.steps (AddInlay i)
    (told a.After-share-2 c.in_ok-folds.folds c.in_ok-folds.ensures (sym (c.in_default.ensures.refusal ∙ same a.After-refusal_to_add))))

pub returns-clause-steps : goal.returns-clause-steps
returns-clause-steps c =
    let a = goal.at.returns-clause-steps c in
    let i = inlay_with c.args.id c.args.offset c.args.bias c.args.text.now in
    lays-added c.args.self.now i c.args.steps.now c.refusal_to_add.new.steps c.insert.new.steps c.turned.new.steps (judged a.After-refusal_to_add) (put a.After-insert)
    (c.turned.ensures.steps (AddInlay i)
    (told a.After-share-2 c.in_ok-folds.folds c.in_ok-folds.ensures (sym (c.in_default.ensures.refusal ∙ same a.After-refusal_to_add))))
