use Rattle.std.proofs.Common.{◌≡◌, ◌-◌, ◌*◌, ◌≤◌, length, drop, map}
use Rattle.sum_tree.specs.Bounds.{TakesAtMost}
use Rattle.block_map.specs.Bounds.{putting}
use Rattle.block_map.specs.inside.RowMoves.{shrunk}
use Rattle.block_map.proofs.stops.Stops.shrink.Given as goal

-- the later edits have taken their rows away
abbrev pub invariant-loop-left : goal.invariant-loop-left
invariant-loop-left l = record {
  within : l.left ≤ length l.edits;
  rest : l.self ≡ map (shrunk l.bias (drop l.left l.edits)) l.initial.self;
  counted : l.initial.steps ≤ l.steps;
  steps : TakesAtMost (λ h. (length l.edits - l.left) * putting h) (length l.initial.self) l.initial.steps l.steps;
}

abbrev pub decreases-loop-left : goal.decreases-loop-left
decreases-loop-left l = l.left
