-- The lines before this one that landed go from `from` to `to`.
use Rattle.std.proofs.Common.{◌-◌, ◌≤◌, length}
use Rattle.view_changes.specs.Events.{rewrapped}
use Rattle.view_changes.proofs.LandedRuns.{GoSoFar}
use Rattle.view_changes.proofs.landing.landed_lines.Given as goal

abbrev pub invariant-runs : goal.invariant-runs
invariant-runs l = record {
  landed : GoSoFar (rewrapped l.before l.after) l.line l.from l.to;
  counted : l.fn.steps ≤ l.steps;
}

abbrev pub decreases-runs : goal.decreases-runs
decreases-runs l = length l.before.marks - l.line
