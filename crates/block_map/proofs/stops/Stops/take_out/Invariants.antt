use Rattle.std.proofs.Common.{◌≡◌, ◌-◌, ◌*◌, ◌≤◌, length, drop}
use Rattle.sum_tree.specs.Bounds.{TakesAtMost}
use Rattle.block_map.specs.Bounds.{putting}
use Rattle.block_map.specs.inside.Without.{without}
use Rattle.block_map.proofs.stops.Stops.take_out.Given as goal

-- what is left without the later places
abbrev pub invariant-loop-left : goal.invariant-loop-left
invariant-loop-left l = record {
  within : l.left ≤ length l.places;
  rest : l.self ≡ without (drop l.left l.places) 0 l.initial.self;
  counted : l.initial.steps ≤ l.steps;
  steps : TakesAtMost (λ h. (length l.places - l.left) * putting h) (length l.initial.self) l.initial.steps l.steps;
}

abbrev pub decreases-loop-left : goal.decreases-loop-left
decreases-loop-left l = l.left
