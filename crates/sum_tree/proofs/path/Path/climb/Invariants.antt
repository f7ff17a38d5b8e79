use Rattle.std.proofs.Common.{◌≡◌}
use Rattle.smallvec.specs.SmallVec.{small_vec_len}
use Rattle.sum_tree.specs.inside.Paths.{IsPath}
use Rattle.sum_tree.proofs.path.Path.climb.Given as goal

abbrev pub invariant-loop-place : goal.invariant-loop-place
invariant-loop-place g l = record {
  path : IsPath g.T.Sum.Summary.empty g.T.Sum.Summary.joined g.T.Item.summary g.T.Sum.Summary.fits l.self;
  root : l.self.root ≡ l.initial.self.root;
}

abbrev pub decreases-loop-place : goal.decreases-loop-place
decreases-loop-place g l = small_vec_len l.self.places
