use Rattle.std.proofs.Common.{◌∙◌, ap, sym}
use Rattle.cell_units.specs.declared.place.Bias.TheVariants.{Left}
use Rattle.block_map.specs.Between.{Between}
use Rattle.block_map.specs.Stops.{rows_upto}
use Rattle.block_map.proofs.snapshot.BlockSnapshot.rows_above.Goals as goal

pub rows_at-requires : goal.rows_at-requires
rows_at-requires g c = c.requires.above ∙ sym (ap (λ (b : Between). rows_upto Left c.args.place.text_row b.above) c.self.view_is)
