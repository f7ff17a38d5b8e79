-- Steps were taken, of which none is a landing, and the owner still has its team.
use Rattle.std.proofs.Common.{length, ◌-◌}
use Rattle.display_map.specs.Events.{event_limit}
use Rattle.live_display.specs.Beside.{is_any_landing}
use Rattle.live_display.proofs.Rounds.{KeepsWithout}
use Rattle.live_display.proofs.owner.Owner.send_runs.Given as goal

abbrev pub invariant-loop : goal.invariant-loop
invariant-loop g l = KeepsWithout is_any_landing l.initial.self l.self

abbrev pub decreases-loop : goal.decreases-loop
decreases-loop g l = event_limit - length l.self.display.events
