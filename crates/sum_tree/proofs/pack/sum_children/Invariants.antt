use Rattle.std.proofs.Common.{◌≡◌, ◌+◌, drop, map, length}
use Rattle.sum_core.specs.Sums.{total}
use Rattle.sum_core.specs.Nodes.{items_under, child_value}
use Rattle.sum_tree.proofs.pack.sum_children.Given as goal

abbrev pub invariant-loop-child : goal.invariant-loop-child
invariant-loop-child g l = record {
  fits : g.T.Sum.Summary.fits (g.T.Sum.Summary.joined l.sum (total g.T.Sum.Summary.empty g.T.Sum.Summary.joined g.T.Item.summary (items_under (drop l.child-index (map child_value l.children)))));
  same : g.T.Sum.Summary.joined l.sum (total g.T.Sum.Summary.empty g.T.Sum.Summary.joined g.T.Item.summary (items_under (drop l.child-index (map child_value l.children)))) ≡ total g.T.Sum.Summary.empty g.T.Sum.Summary.joined g.T.Item.summary (items_under (map child_value l.children));
  count : l.count + length (items_under (drop l.child-index (map child_value l.children))) ≡ length (items_under (map child_value l.children));
}
