use Rattle.cell_units.proofs.PlainLayers.{plain_well_formed}
use Rattle.text_rope.proofs.layer.RopeLayer.buffer_len.Goals as goal

pub returns-clause-well_formed : goal.returns-clause-well_formed
returns-clause-well_formed c = plain_well_formed c.args.self.now c.len.ensures.text
