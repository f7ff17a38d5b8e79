use Rattle.std.proofs.Common.{◌∙◌, ℕ, List, None, ap, sym, subst}
use Rattle.cell_units.specs.Layers.{Source}
use Rattle.layered_text.specs.inside.Kept.{AreTold, WereTold}
use Rattle.layered_text.proofs.ShownSteps.{shows-none}
use Rattle.layered_text.proofs.text.LayeredText.turned.Goals as goal

pub changed-requires : goal.changed-requires
changed-requires c =
    let same = c.in_ok-rope.ensures ∙ c.self.invariant.rope_is ∙ ap (λ (v : Source). v.text) c.self.view_is in
    subst (λ (t : List ℕ). WereTold c.args.self.now t c.args.inlays c.args.folds None) (sym same) c.requires

pub returns-clause-changed : goal.returns-clause-changed
returns-clause-changed c operation told =
    let same = c.in_ok-rope.ensures ∙ c.self.invariant.rope_is ∙ ap (λ (v : Source). v.text) c.self.view_is in
    c.changed.ensures.changed operation (subst (λ (t : List ℕ). AreTold operation c.args.self.now t c.args.inlays c.args.folds None) (sym same) told)

pub returns-in_err-rope-clause-steps : goal.returns-in_err-rope-clause-steps
returns-in_err-rope-clause-steps c operation told = shows-none operation c.args.self.now c.args.steps.now

pub returns-clause-steps : goal.returns-clause-steps
returns-clause-steps c operation told =
    let same = c.in_ok-rope.ensures ∙ c.self.invariant.rope_is ∙ ap (λ (v : Source). v.text) c.self.view_is in
    c.changed.ensures.steps operation (subst (λ (t : List ℕ). AreTold operation c.args.self.now t c.args.inlays c.args.folds None) (sym same) told)
