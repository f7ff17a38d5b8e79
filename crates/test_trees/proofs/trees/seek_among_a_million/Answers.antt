use Rattle.std.proofs.Common.{ap, arith, length}
use Rattle.test_trees.proofs.trees.seek_among_a_million.Goals as goal

pub returns : goal.returns
returns c = omega (arith, c.seek.ensures.steps 7 (omega (arith, ap length c.cursor-cursor.ensures.items, c.requires)))
