use Rattle.std.proofs.Common.{sym, ◌∙◌}
use Rattle.cell_units.proofs.PlainLayers.{plain_back, plain_back_none}
use Rattle.text_rope.proofs.Layers.{true_false}
use Rattle.text_rope.proofs.layer.RopeLayer.back.Goals as goal

pub returns-then-on_boundary : goal.returns-then-on_boundary
returns-then-on_boundary c = plain_back c.args.self.now c.args.place c.args._bias (c.on_boundary.ensures.0 c.if-on_boundary.true)

pub returns-else-on_boundary : goal.returns-else-on_boundary
returns-else-on_boundary c = plain_back_none c.args.self.now c.args.place c.args._bias (λ b. true_false (sym (c.on_boundary.ensures.1 b) ∙ c.if-on_boundary.false))
