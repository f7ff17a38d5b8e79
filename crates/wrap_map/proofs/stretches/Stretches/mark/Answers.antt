use Rattle.std.proofs.Common.{List, length, subst}
use Rattle.sum_tree.specs.Bounds.{TakesAtMost, way}
use Rattle.wrap_map.specs.Stood.{Stood}
use Rattle.wrap_map.proofs.Ticks.{by-lines}
use Rattle.wrap_map.proofs.stretches.Stretches.mark.Goals as goal

pub returns-clause-steps : goal.returns-clause-steps
returns-clause-steps c =
    subst (λ (l : List Stood). TakesAtMost way (length l) c.args.steps.now c.stretch_of.new.steps) c.self.view_is
    (by-lines way c.self.inside.tree c.args.steps.now c.stretch_of.new.steps c.self.invariant.0.each c.stretch_of.ensures.steps)
