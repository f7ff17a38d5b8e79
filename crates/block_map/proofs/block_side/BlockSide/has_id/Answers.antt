use Rattle.std.proofs.Common.{◌∙◌, arith}
use Rattle.block_map.proofs.AlteredSides.{marks-any, marks-count}
use Rattle.block_map.proofs.block_side.BlockSide.has_id.Goals as goal

pub returns-clause-value : goal.returns-clause-value
returns-clause-value c =
    let i = c.self.inside in
    c.contains.ensures.value ∙ marks-any i.marks i.stops i.added c.args.self.now c.self.invariant c.self.view_is c.args.id

pub returns-clause-steps : goal.returns-clause-steps
returns-clause-steps c =
    let i = c.self.inside in
    omega (arith, c.contains.ensures.steps, marks-count i.marks i.stops i.added c.args.self.now c.self.invariant c.self.view_is)
