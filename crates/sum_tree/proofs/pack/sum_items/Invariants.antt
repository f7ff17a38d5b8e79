use Rattle.std.proofs.Common.{◌≡◌, drop}
use Rattle.sum_core.specs.Sums.{total}
use Rattle.sum_tree.proofs.pack.sum_items.Given as goal

abbrev pub invariant-loop-item : goal.invariant-loop-item
invariant-loop-item g l = record {
  fits : g.T.Sum.Summary.fits (g.T.Sum.Summary.joined l.sum (total g.T.Sum.Summary.empty g.T.Sum.Summary.joined g.T.Item.summary (drop l.item-index l.items)));
  same : g.T.Sum.Summary.joined l.sum (total g.T.Sum.Summary.empty g.T.Sum.Summary.joined g.T.Item.summary (drop l.item-index l.items)) ≡ total g.T.Sum.Summary.empty g.T.Sum.Summary.joined g.T.Item.summary l.items;
}
