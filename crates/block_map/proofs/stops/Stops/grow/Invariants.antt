use Rattle.std.proofs.Common.{◌≡◌, ◌-◌, ◌*◌, ◌≤◌, length, take, map}
use Rattle.sum_tree.specs.Bounds.{TakesAtMost}
use Rattle.block_map.specs.Bounds.{putting}
use Rattle.block_map.specs.inside.RowMoves.{grown}
use Rattle.block_map.proofs.stops.Stops.grow.Given as goal

-- the edits before have put in their rows
abbrev pub invariant-loop-done : goal.invariant-loop-done
invariant-loop-done l = record {
  within : l.done ≤ length l.edits;
  rest : l.self ≡ map (grown l.bias (take l.done l.edits)) l.initial.self;
  counted : l.initial.steps ≤ l.steps;
  steps : TakesAtMost (λ h. l.done * putting h) (length l.initial.self) l.initial.steps l.steps;
}

abbrev pub decreases-loop-done : goal.decreases-loop-done
decreases-loop-done l = length l.edits - l.done
