use Rattle.std.proofs.Common.{◌≡◌, ◌+◌, ◌-◌, ◌<◌, ◌≤◌, sym, arith}
use Rattle.std.proofs.lemmas.Bool.{ltb-true}
use Rattle.block_map.proofs.ToldPlaces.{told-below, told-plain, told-zone}
use Rattle.block_map.proofs.snapshot.ZoneStart.place_of.Goals as goal

pub returns-clause-place : goal.returns-clause-place
returns-clause-place c b t is lawful lt =
    let z = c.args.self in
    let u = c.args.row - z.blocks in
    let from : z.from ≤ u = omega (arith, c.if-behind-self.false) in
    let to : u < z.to = omega (arith, c.if-self-behind.false) in
    let begins : u + z.blocks ≡ c.args.row = omega (arith, c.if-row-self.false) in
    let found = told-zone b t c.args.row u z is from to begins lawful lt in (
      found,
      record {
        there = found.there;
        above = sym (is.same_above u from to);
        below = told-below b t c.args.row u z is from to begins;
        plain = λ plain. told-plain b t c.args.row u z is from to begins (ltb-true (u + 1) z.to plain);
      },
    )
