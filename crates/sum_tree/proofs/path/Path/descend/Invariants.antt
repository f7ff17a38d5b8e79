use Rattle.std.proofs.Common.{◌≡◌, ◌+◌, ◌<◌, ◌≤◌, false}
use Rattle.smallvec.specs.SmallVec.{small_vec_len}
use Rattle.sum_tree.specs.Cursors.{measure_to}
use Rattle.sum_tree.specs.inside.Paths.{IsPath, IsPlace, is_met, items_seen, height_seen}
use Rattle.sum_tree.proofs.path.Path.descend.Given as goal

abbrev pub invariant-loop-top : goal.invariant-loop-top
invariant-loop-top g l = record {
  path : IsPath g.T.Sum.Summary.empty g.T.Sum.Summary.joined g.T.Item.summary g.T.Sum.Summary.fits l.self;
  root : l.self.root ≡ l.initial.self.root;
  place : IsPlace g.T.Sum.Summary.empty g.T.Sum.Summary.joined g.T.Item.summary (items_seen l.self.root) l.top;
  height : l.top.height + small_vec_len l.self.places ≡ height_seen l.self.root;
  start_is : l.start ≡ measure_to g.T.Sum.Summary.empty g.T.Sum.Summary.joined g.T.Item.summary g.D.Dimension.measure (items_seen l.self.root) l.top.first;
  not_before : 0 < l.top.first → is_met g.D.Ord.cmp l.aim l.top.first l.start ≡ false;
  ended : (0 < l.top.first + l.top.count → is_met g.D.Ord.cmp l.aim (l.top.first + l.top.count) (measure_to g.T.Sum.Summary.empty g.T.Sum.Summary.joined g.T.Item.summary g.D.Dimension.measure (items_seen l.self.root) (l.top.first + l.top.count)) ≡ false) → 0 < l.initial.top.first + l.initial.top.count → is_met g.D.Ord.cmp l.aim (l.initial.top.first + l.initial.top.count) (measure_to g.T.Sum.Summary.empty g.T.Sum.Summary.joined g.T.Item.summary g.D.Dimension.measure (items_seen l.self.root) (l.initial.top.first + l.initial.top.count)) ≡ false;
  counted : l.initial.steps ≤ l.steps;
  steps : l.steps + l.top.height ≤ l.initial.steps + l.initial.top.height;
}

abbrev pub decreases-loop-top : goal.decreases-loop-top
decreases-loop-top g l = l.top.height
