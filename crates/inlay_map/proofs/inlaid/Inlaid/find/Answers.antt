use Rattle.std.proofs.Common.{◌==◌, ◌∙◌, ap, position, arith}
use Rattle.cell_units.specs.Layers.{Source}
use Rattle.inlay_map.proofs.InlayMarks.{position-inlay}
use Rattle.inlay_map.proofs.StepSums.{marks-count}
use Rattle.inlay_map.proofs.inlaid.Inlaid.find.Goals as goal

pub returns-clause-index : goal.returns-clause-index
returns-clause-index c =
    c.find.ensures.place
    ∙ position-inlay c.args.id c.self.inside.marks
    ∙ ap (λ (s : Source). position (λ i. i.id == c.args.id) s.inlays) c.self.view_is

pub returns-clause-steps : goal.returns-clause-steps
returns-clause-steps c = omega (arith, c.find.ensures.steps, marks-count c.self.inside.rope c.self.inside.marks c.args.self.now c.self.view_is)
