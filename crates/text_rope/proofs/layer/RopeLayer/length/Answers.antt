use Rattle.std.proofs.Common.{◌∙◌, ap, sym, length}
use Rattle.cell_units.proofs.PlainLayers.{text_of_plain}
use Rattle.text_rope.proofs.layer.RopeLayer.length.Goals as goal

pub returns : goal.returns
returns c = c.len.ensures.value ∙ ap length (sym (text_of_plain c.args.self.now))
