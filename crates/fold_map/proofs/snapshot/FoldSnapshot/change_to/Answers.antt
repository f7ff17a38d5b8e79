use Rattle.std.proofs.Common.{arith}
use Rattle.cell_units.specs.declared.place.Bias.TheVariants.{Right}
use Rattle.cell_units.proofs.ShownPlaces.{place-le, places-left_first, places-rise}
use Rattle.fold_map.proofs.snapshot.FoldSnapshot.change_to.Goals as goal

pub overflow_sub-behind : goal.overflow_sub-behind
overflow_sub-behind g c =
    omega (arith, c.place_of-past.ensures.place, c.shown_len.ensures.value, place-le c.args.self.now c.args.end Right c.requires.end.0)

pub new-requires : goal.new-requires
new-requires g c =
    omega (
      arith,
      c.place_of-first.ensures.place,
      c.place_of-past.ensures.place,
      places-left_first c.args.self.now c.args.start,
      places-rise c.args.self.now c.args.start c.args.end Right c.requires.order c.requires.end.0,
    )

pub returns-clause-steps : goal.returns-clause-steps
returns-clause-steps g c h lt lt' =
    omega (arith, c.place_of-first.ensures.steps h lt, c.place_of-past.ensures.steps h lt, c.shown_len.ensures.steps h lt, c.shown_len-len.ensures.steps h lt')
