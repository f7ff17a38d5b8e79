use Rattle.std.proofs.Common.{◌≡◌, ◌+◌, ◌-◌, ◌*◌, ◌≤◌, length, max, min, take}
use Rattle.std.specs.List.{slice_get}
use Rattle.std.specs.Option.{option_copied}
use Rattle.sum_tree.specs.Bounds.{TakesAtMost, way}
use Rattle.wrap_map.proofs.Others.{IsPassedTo}
use Rattle.wrap_map.proofs.Parts.{lines_to}
use Rattle.wrap_map.proofs.Spreads.{extents}
use Rattle.wrap_map.proofs.stretches.Stretches.next_at.Given as goal

abbrev pub invariant-loop-found : goal.invariant-loop-found
invariant-loop-found l = let ss = l.self-inside.tree in record {
  item : option_copied l.found.item ≡ slice_get ss l.found.index;
  before : l.found.before ≡ extents (take l.found.index ss);
  passed : IsPassedTo ss l.line l.width l.found.index;
  counted : l.fn.steps ≤ l.steps;
  steps : TakesAtMost (λ h. (1 + (min (max (lines_to ss l.found.index) l.line) (l.end - 1) - l.line)) * way h) (length ss) l.fn.steps l.steps;
}

abbrev pub decreases-loop-found : goal.decreases-loop-found
decreases-loop-found l = length l.self-inside.tree - l.found.index
