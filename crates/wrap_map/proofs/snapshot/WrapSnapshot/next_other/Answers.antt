use Rattle.std.proofs.Common.{List, ap, subst, ◌∙◌}
use Rattle.wrap_map.specs.Standing.{stood_of}
use Rattle.wrap_map.specs.Stood.{IsOtherIfAny, Stood}
use Rattle.wrap_map.proofs.snapshot.WrapSnapshot.next_other.Goals as goal

pub returns-clause-other : goal.returns-clause-other
returns-clause-other g c =
    let st = c.self.invariant.1 ∙ ap stood_of c.self.view_is in
    subst (λ (l : List Stood). IsOtherIfAny l c.args.line c.args.width c.next_other.result) st c.next_other.ensures.other
