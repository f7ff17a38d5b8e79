use Rattle.std.proofs.Common.{◌-◌, ◌*◌, ◌≤◌, length, take}
use Rattle.sum_tree.specs.Bounds.{TakesAtMost}
use Rattle.block_map.specs.Bounds.{both_ways}
use Rattle.block_map.specs.inside.Anew.{Grows, IsEditedAt, IsTouchedAt}
use Rattle.block_map.proofs.anew.push_edited.Given as goal

-- those of the edits before the next one are added
abbrev pub invariant-loop-next : goal.invariant-loop-next
invariant-loop-next g l = record {
  within : l.next ≤ length l.edits;
  grows : Grows (length l.stops) (IsEditedAt (take l.next l.edits) (g.R.Rows.shown l.rows) l.side l.stops) (IsTouchedAt l.edits (g.R.Rows.shown l.rows) l.side l.stops) l.initial.places.items l.places.items;
  counted : l.initial.steps ≤ l.steps;
  steps : TakesAtMost (λ h. l.next * both_ways h) (length l.stops) l.initial.steps l.steps;
}

abbrev pub decreases-loop-next : goal.decreases-loop-next
decreases-loop-next g l = length l.edits - l.next
