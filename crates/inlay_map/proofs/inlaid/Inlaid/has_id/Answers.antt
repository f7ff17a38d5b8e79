use Rattle.std.proofs.Common.{◌==◌, ◌∙◌, ap, arith}
use Rattle.std.specs.List.{list_any}
use Rattle.cell_units.specs.Layers.{Source}
use Rattle.inlay_map.proofs.InlayMarks.{has-inlay}
use Rattle.inlay_map.proofs.StepSums.{marks-count}
use Rattle.inlay_map.proofs.inlaid.Inlaid.has_id.Goals as goal

pub returns-clause-value : goal.returns-clause-value
returns-clause-value c =
    c.contains.ensures.value
    ∙ has-inlay c.args.id c.self.inside.marks
    ∙ ap (λ (s : Source). list_any (λ i. i.id == c.args.id) s.inlays) c.self.view_is

pub returns-clause-steps : goal.returns-clause-steps
returns-clause-steps c = omega (arith, c.contains.ensures.steps, marks-count c.self.inside.rope c.self.inside.marks c.args.self.now c.self.view_is)
