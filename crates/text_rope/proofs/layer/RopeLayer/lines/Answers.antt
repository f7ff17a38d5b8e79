use Rattle.std.proofs.Common.{◌∙◌, sym}
use Rattle.cell_units.proofs.PlainLayers.{plain_line_count}
use Rattle.text_rope.proofs.layer.RopeLayer.lines.Goals as goal

pub returns : goal.returns
returns c = c.line_count.ensures ∙ sym (plain_line_count c.args.self.now)
