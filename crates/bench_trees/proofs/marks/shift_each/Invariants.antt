use Rattle.std.proofs.Common.{◌+◌}
use Rattle.bench_trees.proofs.Marked.{AreWithin}
use Rattle.bench_trees.proofs.marks.shift_each.Given as goal

abbrev pub invariant-loop-turn : goal.invariant-loop-turn
invariant-loop-turn l = AreWithin (33554432 + l.turn) l.tree
