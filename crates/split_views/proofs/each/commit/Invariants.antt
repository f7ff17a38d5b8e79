-- What is taken and what is left is all that was prepared.
use Rattle.std.proofs.Common.{length}
use Rattle.split_views.proofs.Taken.{IsTaken}
use Rattle.split_views.proofs.each.commit.Given as goal

abbrev pub invariant-commits : goal.invariant-commits
invariant-commits g l = IsTaken l.fn.ready.items l.ready.items l.displays.items

abbrev pub decreases-commits : goal.decreases-commits
decreases-commits g l = length l.ready.items
