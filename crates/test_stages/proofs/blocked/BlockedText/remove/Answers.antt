use Rattle.std.proofs.Common.{◌∙◌, ap, subst, sym}
use Rattle.cell_units.specs.Layers.{plain_source}
use Rattle.block_map.specs.Maps.{BlockState}
use Rattle.blocked_rows.specs.Standing.{ArePlaced}
use Rattle.test_stages.proofs.PlacedBlocks.{placed-removed}
use Rattle.test_stages.proofs.blocked.BlockedText.remove.Goals as goal

pub invariant_of-self-2 : goal.invariant_of-self-2
invariant_of-self-2 c =
    let m = c.args.self.now in
    let source = plain_source m.late.text.rope in
    let made = c.in_ok-blocks.ensures.made in
    record {
      placed = subst (ArePlaced source) (sym made) (placed-removed source m.blocks c.args.id m.placed);
      rows = ap (λ (b : BlockState). b.lines) made ∙ m.rows;
    }
