use Rattle.std.proofs.Common.{arith}
use Rattle.block_map.proofs.AlteredSides.{marks-count}
use Rattle.block_map.proofs.PlacesOfIds.{block-found}
use Rattle.block_map.proofs.block_side.BlockSide.find_id.Goals as goal

pub returns-clause-place : goal.returns-clause-place
returns-clause-place c =
    let i = c.self.inside in
    block-found i.marks i.stops i.added c.args.self.now c.self.invariant c.self.view_is c.args.id c.find.result c.find.ensures.place

pub returns-clause-steps : goal.returns-clause-steps
returns-clause-steps c =
    let i = c.self.inside in
    omega (arith, c.find.ensures.steps, marks-count i.marks i.stops i.added c.args.self.now c.self.invariant c.self.view_is)
