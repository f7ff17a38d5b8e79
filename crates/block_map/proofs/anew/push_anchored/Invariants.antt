use Rattle.std.proofs.Common.{◌-◌, ◌*◌, ◌≤◌, length, take}
use Rattle.sum_tree.specs.Bounds.{ChangesAtMost}
use Rattle.block_map.specs.Bounds.{seeking}
use Rattle.block_map.specs.inside.Anew.{Grows, IsAnchoredAt}
use Rattle.block_map.proofs.anew.push_anchored.Given as goal

-- those of the anchors before the next one are added
abbrev pub invariant-loop-next : goal.invariant-loop-next
invariant-loop-next l = record {
  within : l.next ≤ length l.anchors;
  grows : Grows (length l.marks) (IsAnchoredAt (take l.next l.anchors) l.marks) (IsAnchoredAt l.anchors l.marks) l.initial.places.items l.places.items;
  counted : l.initial.steps ≤ l.steps;
  steps : ChangesAtMost (λ h. l.next * seeking h) (length l.anchors) (length l.marks) l.initial.steps l.steps;
}

abbrev pub decreases-loop-next : goal.decreases-loop-next
decreases-loop-next l = length l.anchors - l.next
