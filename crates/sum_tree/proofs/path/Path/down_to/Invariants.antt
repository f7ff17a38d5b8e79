use Rattle.std.proofs.Common.{◌≡◌, ◌+◌, ◌<◌, ◌≤◌}
use Rattle.smallvec.specs.SmallVec.{small_vec_len}
use Rattle.sum_tree.specs.inside.Paths.{IsPath, IsPlace, items_seen, height_seen}
use Rattle.sum_tree.proofs.path.Path.down_to.Given as goal

abbrev pub invariant-loop-top : goal.invariant-loop-top
invariant-loop-top g l = record {
  path : IsPath g.T.Sum.Summary.empty g.T.Sum.Summary.joined g.T.Item.summary g.T.Sum.Summary.fits l.self;
  root : l.self.root ≡ l.initial.self.root;
  place : IsPlace g.T.Sum.Summary.empty g.T.Sum.Summary.joined g.T.Item.summary (items_seen l.self.root) l.top;
  height : l.top.height + small_vec_len l.self.places ≡ height_seen l.self.root;
  around : (l.top.first ≤ l.index) × (l.index < l.top.first + l.top.count);
  counted : l.initial.steps ≤ l.steps;
  steps : l.steps + l.top.height ≤ l.initial.steps + l.initial.top.height;
}

abbrev pub decreases-loop-top : goal.decreases-loop-top
decreases-loop-top g l = l.top.height
