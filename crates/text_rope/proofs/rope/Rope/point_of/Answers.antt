use Rattle.std.proofs.Common.{List, ℕ, ap, ◌∙◌}
use Rattle.cell_units.specs.Layers.{point_of}
use Rattle.text_rope.proofs.rope.Rope.point_of.Goals as goal

pub returns-clause-point : goal.returns-clause-point
returns-clause-point c = c.point_at.ensures.point ∙ ap (λ (t : List ℕ). point_of t c.args.offset) c.self.view_is
