use Rattle.std.proofs.Common.{◌≡◌, ◌-◌, ◌*◌, ◌≤◌, length, drop}
use Rattle.sum_tree.specs.Bounds.{TakesAtMost}
use Rattle.block_map.specs.Bounds.{inserting}
use Rattle.block_map.specs.inside.SideMoves.{stops_of_marks}
use Rattle.block_map.specs.inside.Without.{without}
use Rattle.block_map.proofs.stops.Stops.put_in.Given as goal

-- all stops but those of the places that are left
abbrev pub invariant-loop-done : goal.invariant-loop-done
invariant-loop-done g l = record {
  within : l.done ≤ length l.places;
  rest : l.self ≡ without (drop l.done l.places) 0 (stops_of_marks (g.P.Layer.source l.layer) (g.R.Rows.shown l.rows) l.side l.marks);
  counted : l.initial.steps ≤ l.steps;
  steps : TakesAtMost (λ h. l.done * inserting h) (length l.marks) l.initial.steps l.steps;
}

abbrev pub decreases-loop-done : goal.decreases-loop-done
decreases-loop-done g l = length l.places - l.done
