use Rattle.std.proofs.Common.{sym, arith}
use Rattle.cell_units.proofs.PlainLayers.{plain_line_count, plain_span}
use Rattle.text_rope.proofs.layer.RopeLayer.span.Goals as goal

pub returns : goal.returns
returns c = sym (plain_span c.args.self.now c.args.line (omega (arith, c.requires, plain_line_count c.args.self.now)))
