-- Runs were wrapped, and no job is out.
use Rattle.std.proofs.Common.{◌-◌, ◌≤◌, length}
use Rattle.display_map.specs.Events.{event_limit}
use Rattle.split_views.specs.Wrapping.{HasWrapped, IsIdle}
use Rattle.split_views.proofs.wrapping.wrap_all.Given as goal

abbrev pub invariant-runs : goal.invariant-runs
invariant-runs g l = record {
  wrapped : HasWrapped l.fn.display l.display;
  idle : IsIdle l.display;
  counted : l.fn.steps ≤ l.steps;
}

abbrev pub decreases-runs : goal.decreases-runs
decreases-runs g l = event_limit - length l.display.events
