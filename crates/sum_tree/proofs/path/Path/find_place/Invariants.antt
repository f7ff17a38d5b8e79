use Rattle.std.proofs.Common.{◌≡◌, ◌<◌, ◌≤◌, ◌+◌, false, length, map, take}
use Rattle.sum_core.specs.Nodes.{child_value, items_under}
use Rattle.sum_tree.specs.Cursors.{measure_to}
use Rattle.sum_tree.specs.inside.Paths.{is_met, items_seen}
use Rattle.sum_tree.proofs.path.Path.find_place.Given as goal

abbrev pub invariant-loop-child : goal.invariant-loop-child
invariant-loop-child g l = record {
  first_is : l.first ≡ l.top.first + length (items_under (take l.child-index (map child_value l.children)));
  start_is : l.start ≡ measure_to g.T.Sum.Summary.empty g.T.Sum.Summary.joined g.T.Item.summary g.D.Dimension.measure (items_seen l.self.root) l.first;
  counted : l.initial.steps ≤ l.steps;
  steps : l.steps ≤ l.initial.steps;
  not_before : 0 < l.first → is_met g.D.Ord.cmp l.aim l.first l.start ≡ false;
}
