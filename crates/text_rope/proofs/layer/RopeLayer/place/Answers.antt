use Rattle.std.proofs.Common.{sym}
use Rattle.cell_units.proofs.PlainLayers.{place_of_plain}
use Rattle.text_rope.proofs.layer.RopeLayer.place.Goals as goal

pub returns : goal.returns
returns c = sym (place_of_plain c.args.self.now c.args.offset c.args._bias c.requires.0)
