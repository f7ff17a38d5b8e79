use Rattle.std.proofs.Common.{◌+◌, ap, length, arith}
use Rattle.cell_units.specs.declared.place.Bias.TheVariants.{Right}
use Rattle.cell_units.specs.Layers.{Source}
use Rattle.cell_units.proofs.ShownPlaces.{places-left_first, places-rise}
use Rattle.inlay_map.proofs.snapshot.InlaySnapshot.shift_over.Goals as goal

pub overflow_add-shift : goal.overflow_add-shift
overflow_add-shift c = omega (arith, c.requires.reaches, c.len-len.ensures.value, c.len-len.ensures.lawful.short, ap (λ (s : Source). length s.text) c.next.view_is)

pub overflow_sub-last : goal.overflow_sub-last
overflow_sub-last c =
    let s = c.args.shift in
    let next = c.args.next.now in
    omega (
      arith,
      c.place-start.ensures.place,
      c.place-last.ensures.place,
      c.requires.before,
      places-left_first next s.start,
      places-rise next s.start (s.start + s.count) Right (omega arith) c.requires.reaches,
    )

pub new-requires : goal.new-requires
new-requires c =
    let s = c.args.shift in
    let now = c.args.self.now in
    omega (arith, c.place-start.ensures.place, c.place-end.ensures.place, places-left_first now s.start, places-rise now s.start s.end Right s.ordered c.requires.within)

pub returns-clause-steps : goal.returns-clause-steps
returns-clause-steps c h few few' = omega (arith, c.place-start.ensures.steps h few, c.place-end.ensures.steps h few, c.place-last.ensures.steps h few')
