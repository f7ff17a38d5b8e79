use Rattle.std.proofs.Common.{◌≡◌, ◌+◌, ◌*◌, ◌≤◌, length, map, take}
use Rattle.std.specs.List.{position_or_len}
use Rattle.sum_core.specs.Nodes.{items_under, child_value}
use Rattle.sum_tree.proofs.search.+search.Given as goal

abbrev pub decreases-before_below : goal.decreases-before_below
decreases-before_below g l = 3 * l.height

abbrev pub decreases-before_in : goal.decreases-before_in
decreases-before_in g l = 3 * l.below + 1

abbrev pub decreases-before_under : goal.decreases-before_under
decreases-before_under g l = 3 * l.below + 2

abbrev pub invariant-before_under-loop-child : goal.invariant-before_under-loop-child
invariant-before_under-loop-child g l =
    let passed = items_under (take l.child-index (map child_value l.children)) in
    record {
      before : l.before ≡ length passed;
      none : length passed ≤ position_or_len (g.Q.Probe.is_passed l.probe) passed;
      counted : l.initial.steps ≤ l.steps;
      steps : 5 * l.steps + l.child-index ≤ 5 * l.initial.steps + length passed;
    }
