use Rattle.std.proofs.Common.{◌≡◌, ◌+◌, ◌-◌, ◌≤◌, length}
use Rattle.std.specs.Vec.{vec_capacity}
use Rattle.sum_tree.specs.inside.InPlace.{refilled}
use Rattle.sum_tree.proofs.in_place.write_reserved.Given as goal

-- What is to be written yet, in the place of those up to the end, makes the list that is wanted.
abbrev pub invariant-loop-end : goal.invariant-loop-end
invariant-loop-end g l = record {
  order : l.span.from ≤ l.end;
  within : l.end ≤ length l.leaf.items;
  room : length l.leaf.items + length l.items.items ≤ vec_capacity l.leaf + (l.end - l.span.from);
  done : refilled l.leaf.items (record { from = l.span.from; to = l.end }) l.items.items ≡ refilled l.fn.leaf.items l.fn.span l.fn.items.items;
}

abbrev pub decreases-loop-end : goal.decreases-loop-end
decreases-loop-end g l = l.end

-- They are at least as many as those.
abbrev pub invariant-loop-item : goal.invariant-loop-item
invariant-loop-item g l = record {
  order : l.span.from ≤ l.end;
  within : l.end ≤ length l.leaf.items;
  few : l.end - l.span.from ≤ length l.items.items;
  room : length l.leaf.items + length l.items.items ≤ vec_capacity l.leaf + (l.end - l.span.from);
  done : refilled l.leaf.items (record { from = l.span.from; to = l.end }) l.items.items ≡ refilled l.fn.leaf.items l.fn.span l.fn.items.items;
}

abbrev pub decreases-loop-item : goal.decreases-loop-item
decreases-loop-item g l = length l.items.items
