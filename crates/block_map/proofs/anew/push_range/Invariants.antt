use Rattle.std.proofs.Common.{ℕ, ◌-◌, ◌<◌, ◌≤◌}
use Rattle.block_map.specs.inside.Anew.{Grows, IsIn}
use Rattle.block_map.proofs.anew.push_range.Given as goal

-- the places before the next one are added
abbrev pub invariant-loop-next : goal.invariant-loop-next
invariant-loop-next l = record {
  low : l.from ≤ l.next;
  bound : l.from < l.next → l.next ≤ l.to;
  grows : (n : ℕ) → l.to ≤ n → Grows n (IsIn l.from l.next) (IsIn l.from l.next) l.initial.places.items l.places.items;
}

abbrev pub decreases-loop-next : goal.decreases-loop-next
decreases-loop-next l = l.to - l.next
