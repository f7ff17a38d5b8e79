use Rattle.std.proofs.Common.{◌≡◌, ◌≤◌, ◌∙◌, ℕ, List, length, Option, None, ap, refl, sym, subst, arith}
use Rattle.cell_units.specs.declared.fault.Fault.TheVariants.{Refused}
use Rattle.cell_units.specs.declared.fault.Refusal.{Refusal}
use Rattle.cell_units.specs.declared.limits.TheConstants.{LAID_LIMIT}
use Rattle.cell_units.specs.Lawful.{IsWellFormed}
use Rattle.cell_units.specs.Layers.{Source}
use Rattle.cell_units.specs.Operation.{AddFold}
use Rattle.inlay_map.specs.Maps.{InlayState}
use Rattle.inlay_map.proofs.Sent.{sent}
use Rattle.fold_map.specs.Maps.{FoldState, IsOwed, fold_with, folded_up, state_of, with_fold}
use Rattle.fold_map.specs.Snapshots.{PlacesFit, fold_refusal}
use Rattle.fold_map.proofs.StateMaps.{owed-memory}
use Rattle.joined_folds.specs.Sweeps.{count_met}
use Rattle.sum_tree.specs.Bounds.{Searches}
use Rattle.fold_map.specs.Bounds.{SearchesTwice, folding}
use Rattle.layered_text.specs.Bounds.{LaysAtMost}
use Rattle.layered_text.specs.inside.Kept.{AreTold, inlays_of}
use Rattle.layered_text.proofs.LaidSteps.{lays-folded, lays-judged_fold}
use Rattle.layered_text.proofs.ShownSteps.{shows-none}
use Rattle.layered_text.proofs.Tellings.{fits-folded, told-folded}
use Rattle.layered_text.proofs.text.LayeredText.with_fold.Goals as goal
use Rattle.layered_text.proofs.text.LayeredText.with_fold.Goals.{After-fold, After-len-2, After-refusal_to_fold, After-share-2}

-- the refusal is the one of the source
same : (c : After-refusal_to_fold) →
    fold_refusal c.self.inside.layer c.args.id c.args.start c.args.end ≡ fold_refusal c.args.self.now c.args.id c.args.start c.args.end
same c = ap (λ (v : Source). fold_refusal v c.args.id c.args.start c.args.end) c.self.view_is

-- the inlays and folds fit the text
formed : (c : After-len-2) → IsWellFormed c.args.self.now
formed c = subst IsWellFormed (ap (λ (m : FoldState). m.current) c.self.invariant.folds_are ∙ c.self.view_is) c.len-2.ensures.lawful

short : (c : After-len-2) → length c.args.self.now.text ≤ LAID_LIMIT
short c =
    omega (arith, c.len.ensures.value, c.len.ensures.within, ap (λ (t : List ℕ). length t) (c.self.invariant.rope_is ∙ ap (λ (v : Source). v.text) c.self.view_is))

pub returns-in-Some-clause-refused : goal.returns-in-Some-clause-refused
returns-in-Some-clause-refused c =
    subst (λ (o : Option Refusal). IsOwed o (Refused c.in-Some.refusal)) (c.in-Some.ensures.refusal ∙ same (goal.at.returns-in-Some-clause-refused c).After-refusal_to_fold) refl

pub len-requires-2-send-L : goal.len-requires-2-send-L
len-requires-2-send-L c κs = search sent depth 60 fits 20000

pub len-requires-2-sync-L : goal.len-requires-2-sync-L
len-requires-2-sync-L c κs = search sent depth 60 fits 20000

pub share-requires-send-L : goal.share-requires-send-L
share-requires-send-L c κs = search sent depth 60 fits 20000

pub share-requires-sync-L : goal.share-requires-sync-L
share-requires-sync-L c κs = search sent depth 60 fits 20000

pub fold-requires-send-L : goal.fold-requires-send-L
fold-requires-send-L c κs = search sent depth 60 fits 20000

pub fold-requires-sync-L : goal.fold-requires-sync-L
fold-requires-sync-L c κs = search sent depth 60 fits 20000

pub fold-requires-clause-fits : goal.fold-requires-clause-fits
fold-requires-clause-fits c κs =
    let a = (goal.at.fold-requires-clause-fits c).After-len-2 in
    let f = fold_with c.args.id c.args.start c.args.end in
    subst (λ (m : FoldState). fold_refusal m.current f.id f.start f.end ≡ None → PlacesFit (with_fold f m.current))
    (sym (c.in_ok-folds.ensures ∙ c.self.invariant.folds_are ∙ ap state_of c.self.view_is)) (fits-folded c.args.self.now (formed a) (short a) f)

pub returns-in_err-folds-clause-refused : goal.returns-in_err-folds-clause-refused
returns-in_err-folds-clause-refused c =
    owed-memory (fold_refusal c.args.self.now c.args.id c.args.start c.args.end) c.from_residual.result
    (c.in_default.ensures.refusal ∙ same (goal.at.returns-in_err-folds-clause-refused c).After-refusal_to_fold) c.from_residual.ensures.1

pub returns-in_err-inlays-clause-refused : goal.returns-in_err-inlays-clause-refused
returns-in_err-inlays-clause-refused c =
    owed-memory (fold_refusal c.args.self.now c.args.id c.args.start c.args.end) c.from_residual-in_err-inlays.result
    (c.in_default.ensures.refusal ∙ same (goal.at.returns-in_err-inlays-clause-refused c).After-refusal_to_fold) c.from_residual-in_err-inlays.ensures.1

pub returns-in_err-turned-clause-refused : goal.returns-in_err-turned-clause-refused
returns-in_err-turned-clause-refused c =
    owed-memory (fold_refusal c.args.self.now c.args.id c.args.start c.args.end) c.from_residual-in_err-turned.result
    (c.in_default.ensures.refusal ∙ same (goal.at.returns-in_err-turned-clause-refused c).After-refusal_to_fold) c.from_residual-in_err-turned.ensures.1

-- the map of folds has one more
told : (c : After-share-2) (inlays : InlayState) → inlays ≡ c.self.inside.inlays → IsWellFormed c.args.self.now
    → fold_refusal c.args.self.now c.args.id c.args.start c.args.end ≡ None
    → AreTold (AddFold (fold_with c.args.id c.args.start c.args.end)) c.args.self.now c.args.self.now.text inlays c.fold.new.self None
told c inlays shared is none =
    let f = fold_with c.args.id c.args.start c.args.end in
    told-folded c.args.self.now inlays c.fold.new.self f is none
    (shared ∙ c.self.invariant.inlays_are ∙ ap inlays_of c.self.view_is)
    (c.in_ok-fold.ensures.ok ∙ ap (folded_up f) (c.in_ok-folds.ensures ∙ c.self.invariant.folds_are ∙ ap state_of c.self.view_is))

pub turned-requires : goal.turned-requires
turned-requires c =
    let a = goal.at.turned-requires c in (
      AddFold (fold_with c.args.id c.args.start c.args.end),
      told a.After-share-2 c.in_ok-inlays.inlays c.in_ok-inlays.ensures (formed a.After-len-2) (sym (c.in_default.ensures.refusal ∙ same a.After-refusal_to_fold)),
    )

pub returns-clause-changed : goal.returns-clause-changed
returns-clause-changed c =
    let a = goal.at.returns-clause-changed c in
    c.in_ok-turned.ensures.changed (AddFold (fold_with c.args.id c.args.start c.args.end))
    (told a.After-share-2 c.in_ok-inlays.inlays c.in_ok-inlays.ensures (formed a.After-len-2) (sym (c.in_default.ensures.refusal ∙ same a.After-refusal_to_fold)))

pub returns-clause-accepted : goal.returns-clause-accepted
returns-clause-accepted c = sym (c.in_default.ensures.refusal ∙ same (goal.at.returns-clause-accepted c).After-refusal_to_fold)

pub refusal_to_fold-requires-send-L : goal.refusal_to_fold-requires-send-L
refusal_to_fold-requires-send-L c κs = search sent depth 60 fits 20000

pub refusal_to_fold-requires-sync-L : goal.refusal_to_fold-requires-sync-L
refusal_to_fold-requires-sync-L c κs = search sent depth 60 fits 20000

-- ---- steps

-- those in which it is judged
judged : (c : After-refusal_to_fold) → Searches (length c.args.self.now.folds) c.args.steps.now c.refusal_to_fold.new.steps
judged c = subst (λ (v : Source). Searches (length v.folds) c.args.steps.now c.refusal_to_fold.new.steps) c.self.view_is c.refusal_to_fold.ensures.steps

judged-only : (c : After-refusal_to_fold) → LaysAtMost (AddFold (fold_with c.args.id c.args.start c.args.end)) c.args.self.now c.args.steps.now c.refusal_to_fold.new.steps
judged-only c =
    lays-judged_fold c.args.self.now (fold_with c.args.id c.args.start c.args.end) c.args.steps.now c.refusal_to_fold.new.steps (judged c)

-- and then it is added
put : (c : After-fold) → let after = (with_fold (fold_with c.args.id c.args.start c.args.end) c.args.self.now).folds in
    SearchesTwice (folding (count_met c.args.start c.args.end after)) (length after) c.refusal_to_fold.new.steps c.fold.new.steps
put c =
    let f = fold_with c.args.id c.args.start c.args.end in
    subst (λ (m : FoldState). SearchesTwice (folding (count_met f.start f.end (with_fold f m.current).folds)) (length (with_fold f m.current).folds)
    c.refusal_to_fold.new.steps c.fold.new.steps) (c.in_ok-folds.ensures ∙ c.self.invariant.folds_are ∙ ap state_of c.self.view_is) c.fold.ensures.steps

put-only : (c : After-fold) → Searches (length c.args.self.now.folds) c.args.steps.now c.refusal_to_fold.new.steps
    → LaysAtMost (AddFold (fold_with c.args.id c.args.start c.args.end)) c.args.self.now c.args.steps.now c.fold.new.steps
put-only c first =
    let f = fold_with c.args.id c.args.start c.args.end in
    lays-folded c.args.self.now f c.args.steps.now c.refusal_to_fold.new.steps c.fold.new.steps c.fold.new.steps first (put c)
    (shows-none (AddFold f) c.args.self.now c.fold.new.steps)

pub returns-in-Some-clause-steps : goal.returns-in-Some-clause-steps
returns-in-Some-clause-steps c = judged-only (goal.at.returns-in-Some-clause-steps c).After-refusal_to_fold

pub returns-in_err-folds-clause-steps : goal.returns-in_err-folds-clause-steps
returns-in_err-folds-clause-steps c = judged-only (goal.at.returns-in_err-folds-clause-steps c).After-refusal_to_fold

pub returns-in_err-fold-clause-steps : goal.returns-in_err-fold-clause-steps
returns-in_err-fold-clause-steps c =
    let a = goal.at.returns-in_err-fold-clause-steps c in put-only a.After-fold (judged a.After-refusal_to_fold)

pub returns-in_err-inlays-clause-steps : goal.returns-in_err-inlays-clause-steps
returns-in_err-inlays-clause-steps c =
    let a = goal.at.returns-in_err-inlays-clause-steps c in put-only a.After-fold (judged a.After-refusal_to_fold)

pub returns-in_err-turned-clause-steps : goal.returns-in_err-turned-clause-steps
returns-in_err-turned-clause-steps c =
    let a = goal.at.returns-in_err-turned-clause-steps c in
    let f = fold_with c.args.id c.args.start c.args.end in
    lays-folded c.args.self.now f c.args.steps.now c.refusal_to_fold.new.steps c.fold.new.steps c.turned.new.steps (judged a.After-refusal_to_fold) (put a.After-fold)
    (c.turned.ensures.steps (AddFold f)
    (told a.After-share-2 c.in_ok-inlays.inlays c.in_ok-inlays.ensures (formed a.After-len-2) (sym (c.in_default.ensures.refusal ∙ same a.After-refusal_to_fold))))

pub returns-clause-steps : goal.returns-clause-steps
returns-clause-steps c =
    let a = goal.at.returns-clause-steps c in
    let f = fold_with c.args.id c.args.start c.args.end in
    lays-folded c.args.self.now f c.args.steps.now c.refusal_to_fold.new.steps c.fold.new.steps c.turned.new.steps (judged a.After-refusal_to_fold) (put a.After-fold)
    (c.turned.ensures.steps (AddFold f)
    (told a.After-share-2 c.in_ok-inlays.inlays c.in_ok-inlays.ensures (formed a.After-len-2) (sym (c.in_default.ensures.refusal ∙ same a.After-refusal_to_fold))))
