use Rattle.std.proofs.Common.{arith}
use Rattle.test_trees.proofs.trees.height_of_a_million.Goals as goal

pub returns : goal.returns
returns c = c.height.ensures.low 7 (omega (arith, c.requires))
