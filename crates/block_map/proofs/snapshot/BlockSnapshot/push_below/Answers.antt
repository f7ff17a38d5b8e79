use Rattle.std.proofs.Common.{◌∙◌, ◌+◌, length, ap, sym, arith}
use Rattle.cell_units.specs.declared.place.Bias.TheVariants.{Left}
use Rattle.block_map.specs.Between.{Between}
use Rattle.block_map.specs.Stops.{rows_upto, texts_at}
use Rattle.block_map.proofs.snapshot.BlockSnapshot.push_below.Goals as goal

pub push_blocks-requires-clause-within : goal.push_blocks-requires-clause-within
push_blocks-requires-clause-within g c = omega (arith, c.requires.within, ap (λ (b : Between). length (texts_at (c.args.place.text_row + 1) b.below)) c.self.view_is)

pub push_blocks-requires-clause-before : goal.push_blocks-requires-clause-before
push_blocks-requires-clause-before g c = c.requires.place.below ∙ sym (ap (λ (b : Between). rows_upto Left (c.args.place.text_row + 1) b.below) c.self.view_is)
