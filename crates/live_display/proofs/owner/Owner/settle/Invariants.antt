-- Steps were taken, and the owner still has its team and is busy.
use Rattle.std.proofs.Common.{length, ◌-◌}
use Rattle.display_map.specs.Events.{event_limit}
use Rattle.live_display.specs.Owned.{IsBusy}
use Rattle.live_display.proofs.Rounds.{Keeps}
use Rattle.live_display.proofs.owner.Owner.settle.Given as goal

abbrev pub invariant-loop-self : goal.invariant-loop-self
invariant-loop-self g l = record { keeps : Keeps l.fn.self l.self; busy : IsBusy l.self }

abbrev pub decreases-loop-self : goal.decreases-loop-self
decreases-loop-self g l = event_limit - length l.self.display.events
