use Rattle.std.proofs.Common.{◌≡◌, ◌<◌, ◌+◌, false}
use Rattle.sum_tree.specs.Cursors.{measure_to}
use Rattle.sum_tree.specs.inside.Paths.{is_met, items_seen}
use Rattle.sum_tree.proofs.path.Path.find_item.Given as goal

abbrev pub invariant-loop-offset : goal.invariant-loop-offset
invariant-loop-offset g l = record {
  start_is : l.start ≡ measure_to g.T.Sum.Summary.empty g.T.Sum.Summary.joined g.T.Item.summary g.D.Dimension.measure (items_seen l.self.root) (l.top.first + l.offset);
  not_before : 0 < l.top.first + l.offset → is_met g.D.Ord.cmp l.aim (l.top.first + l.offset) l.start ≡ false;
}
