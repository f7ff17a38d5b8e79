use Rattle.std.proofs.Common.{◌∙◌, ap, subst, sym}
use Rattle.cell_units.specs.Layers.{plain_source}
use Rattle.cell_units.proofs.PlainLayers.{plain_well_formed}
use Rattle.block_map.specs.Maps.{BlockState}
use Rattle.blocked_rows.specs.Standing.{ArePlaced}
use Rattle.test_stages.proofs.PlacedBlocks.{lines-added, placed-added}
use Rattle.test_stages.proofs.blocked.BlockedText.insert.Goals as goal

pub invariant_of-self-2 : goal.invariant_of-self-2
invariant_of-self-2 c =
    let m = c.args.self.now in
    let source = plain_source m.late.text.rope in
    let made = c.in_ok-blocks.ensures.made in
    record {
      placed = subst (ArePlaced source) (sym made)
          (placed-added source (plain_well_formed m.late.text.rope c.len-bytes.ensures.text) m.blocks m.placed c.args.id c.args.offset c.args.lines.now
          c.in_ok-blocks.ensures.accepted c.args.side);
      rows = ap (λ (b : BlockState). b.lines) made ∙ lines-added source c.args.side c.args.id c.args.offset c.args.lines.now m.blocks ∙ m.rows;
    }
