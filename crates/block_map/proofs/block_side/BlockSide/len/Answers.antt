use Rattle.std.proofs.Common.{◌∙◌}
use Rattle.block_map.proofs.AlteredSides.{marks-count}
use Rattle.block_map.proofs.block_side.BlockSide.len.Goals as goal

pub returns : goal.returns
returns c =
    let i = c.self.inside in
    c.len.ensures ∙ marks-count i.marks i.stops i.added c.args.self.now c.self.invariant c.self.view_is
