use Rattle.std.proofs.Common.{arith}
use Rattle.cell_units.proofs.ShownPlaces.{places-left_first}
use Rattle.inlay_map.proofs.snapshot.InlaySnapshot.shift_to.Goals as goal

pub overflow_sub-last : goal.overflow_sub-last
overflow_sub-last c = omega (arith, c.place-start.ensures.place, c.place-last.ensures.place, c.requires.before, places-left_first c.args.next.now c.args.offset)

pub new-requires : goal.new-requires
new-requires c = omega (arith, c.place-start.ensures.place, c.place-end.ensures.place, places-left_first c.args.self.now c.args.offset)

pub returns-clause-steps : goal.returns-clause-steps
returns-clause-steps c h few few' = omega (arith, c.place-start.ensures.steps h few, c.place-end.ensures.steps h few, c.place-last.ensures.steps h few')
