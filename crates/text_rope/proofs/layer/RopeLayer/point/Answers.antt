use Rattle.std.proofs.Common.{List, ℕ, ap, sym, length, ◌∙◌, arith}
use Rattle.cell_units.specs.Layers.{point_of}
use Rattle.cell_units.proofs.PlainLayers.{text_of_plain}
use Rattle.text_rope.proofs.layer.RopeLayer.point.Goals as goal

pub point_of-requires : goal.point_of-requires
point_of-requires c = omega (arith, c.requires, ap length (text_of_plain c.args.self.now))

pub returns : goal.returns
returns c = c.point_of.ensures.point ∙ ap (λ (text : List ℕ). point_of text c.args.place) (sym (text_of_plain c.args.self.now))
