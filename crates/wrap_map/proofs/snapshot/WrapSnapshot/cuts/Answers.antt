use Rattle.std.proofs.Common.{List, ap, subst, ◌∙◌}
use Rattle.wrap_map.specs.Standing.{IsStanding, Standing, stood_of}
use Rattle.wrap_map.specs.Stood.{Stood, stood_at}
use Rattle.wrap_map.proofs.Snapshots.{stood-there}
use Rattle.wrap_map.proofs.snapshot.WrapSnapshot.cuts.Goals as goal

pub returns-clause-cuts : goal.returns-clause-cuts
returns-clause-cuts g c =
    let s = c.args.self.now in
    let is = subst (λ (t : Standing). IsStanding t) c.self.view_is c.self.invariant.0 in
    let st = c.self.invariant.1 ∙ ap stood_of c.self.view_is in
    c.cuts.ensures.cuts
    ∙ ap (λ (l : List Stood). (stood_at l c.args.line).cuts) st
    ∙ ap (λ (l : Stood). l.cuts) (stood-there s is c.args.line c.requires)
