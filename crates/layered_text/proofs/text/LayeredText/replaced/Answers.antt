use Rattle.std.proofs.Common.{◌≡◌, ◌≤◌, ◌∙◌, ℕ, List, Some, length, ap, sym, subst}
use Rattle.cell_units.specs.declared.limits.TheConstants.{LAID_LIMIT}
use Rattle.cell_units.specs.Layers.{Source}
use Rattle.cell_units.specs.Operation.{Replace, replaced_text}
use Rattle.cell_units.specs.Text.{clean}
use Rattle.text_rope.specs.Bounds.{ChangesText, replacing}
use Rattle.text_rope.specs.Edits.{IsRange}
use Rattle.inlay_map.proofs.Sent.{sent}
use Rattle.fold_map.specs.Maps.{FoldState, state_of}
use Rattle.layered_text.specs.Bounds.{LaysAtMost}
use Rattle.layered_text.specs.inside.Kept.{AreTold, inlays_of}
use Rattle.layered_text.proofs.LaidSteps.{lays-replaced}
use Rattle.layered_text.proofs.ShownSteps.{shows-none}
use Rattle.layered_text.proofs.Tellings.{told-replaced}
use Rattle.layered_text.proofs.text.LayeredText.replaced.Goals as goal
use Rattle.layered_text.proofs.text.LayeredText.replaced.Goals.{After-replaced, After-share-2}

pub replaced-requires-clause-range : goal.replaced-requires-clause-range
replaced-requires-clause-range c =
    let same = c.self.invariant.rope_is ∙ ap (λ (v : Source). v.text) c.self.view_is in
    subst (λ (t : List ℕ). IsRange t c.args.start c.args.end) (sym same) c.requires.range

pub replaced-requires-clause-fits : goal.replaced-requires-clause-fits
replaced-requires-clause-fits c =
    let same = c.self.invariant.rope_is ∙ ap (λ (v : Source). v.text) c.self.view_is in
    subst (λ (t : List ℕ). length (replaced_text t c.args.start c.args.end (clean c.args.text.now)) ≤ LAID_LIMIT) (sym same) c.requires.fits

pub share-requires-2-send-L : goal.share-requires-2-send-L
share-requires-2-send-L c κs = search sent depth 60 fits 20000

pub share-requires-2-sync-L : goal.share-requires-2-sync-L
share-requires-2-sync-L c κs = search sent depth 60 fits 20000

-- the text was replaced, and both maps are as they were
told : (c : After-share-2) (folds : FoldState) → folds ≡ c.self.inside.folds
    → AreTold (Replace c.args.start c.args.end c.args.text.now) c.args.self.now c.in_ok-rope.rope c.in_ok-inlays.inlays folds (Some c.in_ok-rope.shift)
told c folds shared =
    let same = c.self.invariant.rope_is ∙ ap (λ (v : Source). v.text) c.self.view_is in
    told-replaced c.args.self.now c.in_ok-inlays.inlays folds c.args.start c.args.end c.args.text.now c.in_ok-rope.rope c.in_ok-rope.shift c.requires.range c.utf8.text
    (c.in_ok-rope.ensures.text ∙ ap (λ (t : List ℕ). replaced_text t c.args.start c.args.end (clean c.args.text.now)) same)
    (c.in_ok-inlays.ensures ∙ c.self.invariant.inlays_are ∙ ap inlays_of c.self.view_is)
    (shared ∙ c.self.invariant.folds_are ∙ ap state_of c.self.view_is) c.in_ok-rope.ensures.shift

pub changed-requires : goal.changed-requires
changed-requires c = (Replace c.args.start c.args.end c.args.text.now, told (goal.at.changed-requires c).After-share-2 c.in_ok-folds.folds c.in_ok-folds.ensures)

pub returns-clause-changed : goal.returns-clause-changed
returns-clause-changed c =
    c.in_ok-made.ensures.changed (Replace c.args.start c.args.end c.args.text.now) (told (goal.at.returns-clause-changed c).After-share-2 c.in_ok-folds.folds c.in_ok-folds.ensures)

-- ---- steps

-- those in which the rope is made
made : (c : After-replaced) → ChangesText (replacing (length (clean c.args.text.now))) c.args.self.now.text
    (replaced_text c.args.self.now.text c.args.start c.args.end (clean c.args.text.now)) c.args.steps.now c.replaced.new.steps
made c =
    let same = c.self.invariant.rope_is ∙ ap (λ (v : Source). v.text) c.self.view_is in
    subst (λ (t : List ℕ). ChangesText (replacing (length (clean c.args.text.now))) t (replaced_text t c.args.start c.args.end (clean c.args.text.now))
    c.args.steps.now c.replaced.new.steps) same c.replaced.ensures.steps

-- and no more
made-only : (c : After-replaced) → LaysAtMost (Replace c.args.start c.args.end c.args.text.now) c.args.self.now c.args.steps.now c.replaced.new.steps
made-only c =
    let op = Replace c.args.start c.args.end c.args.text.now in
    lays-replaced c.args.self.now c.args.start c.args.end c.args.text.now c.args.steps.now c.replaced.new.steps c.replaced.new.steps (made c)
    (shows-none op c.args.self.now c.replaced.new.steps)

pub returns-in_err-rope-clause-steps : goal.returns-in_err-rope-clause-steps
returns-in_err-rope-clause-steps c = made-only (goal.at.returns-in_err-rope-clause-steps c).After-replaced

pub returns-in_err-inlays-clause-steps : goal.returns-in_err-inlays-clause-steps
returns-in_err-inlays-clause-steps c = made-only (goal.at.returns-in_err-inlays-clause-steps c).After-replaced

pub returns-in_err-folds-clause-steps : goal.returns-in_err-folds-clause-steps
returns-in_err-folds-clause-steps c = made-only (goal.at.returns-in_err-folds-clause-steps c).After-replaced

pub returns-in_err-made-clause-steps : goal.returns-in_err-made-clause-steps
returns-in_err-made-clause-steps c =
    let a = goal.at.returns-in_err-made-clause-steps c in
    let op = Replace c.args.start c.args.end c.args.text.now in
    lays-replaced c.args.self.now c.args.start c.args.end c.args.text.now c.args.steps.now c.replaced.new.steps c.changed.new.steps (made a.After-replaced)
    (c.changed.ensures.steps op (told a.After-share-2 c.in_ok-folds.folds c.in_ok-folds.ensures))

pub returns-clause-steps : goal.returns-clause-steps
returns-clause-steps c =
    let a = goal.at.returns-clause-steps c in
    let op = Replace c.args.start c.args.end c.args.text.now in
    lays-replaced c.args.self.now c.args.start c.args.end c.args.text.now c.args.steps.now c.replaced.new.steps c.changed.new.steps (made a.After-replaced)
    (c.changed.ensures.steps op (told a.After-share-2 c.in_ok-folds.folds c.in_ok-folds.ensures))
