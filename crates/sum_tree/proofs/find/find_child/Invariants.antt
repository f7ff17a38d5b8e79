use Rattle.std.proofs.Common.{◌≡◌, ◌<◌, ◌≤◌, length, map, take}
use Rattle.sum_core.specs.Nodes.{items_under, child_value}
use Rattle.sum_tree.proofs.find.find_child.Given as goal

abbrev pub invariant-loop-index : goal.invariant-loop-index
invariant-loop-index g l = record {
  offset : l.offset ≡ length (items_under (take l.index (map child_value l.children)));
  low : l.offset ≤ l.at;
  past : 0 < l.index → l.offset < l.at;
}
