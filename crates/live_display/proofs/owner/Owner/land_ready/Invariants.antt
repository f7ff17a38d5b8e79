-- Steps were taken, of which none sent a run, and the owner still has its team.
use Rattle.std.proofs.Common.{length}
use Rattle.live_display.specs.Beside.{is_send}
use Rattle.live_display.proofs.Rounds.{KeepsWithout}
use Rattle.live_display.proofs.owner.Owner.land_ready.Given as goal

abbrev pub invariant-loop : goal.invariant-loop
invariant-loop g l = KeepsWithout is_send l.initial.self l.self

abbrev pub decreases-loop : goal.decreases-loop
decreases-loop g l = length l.self.crew.out
