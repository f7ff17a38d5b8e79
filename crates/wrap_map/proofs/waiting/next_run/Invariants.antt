use Rattle.std.proofs.Common.{ℕ, ◌+◌, ◌*◌, ◌^◌, ◌<◌, ◌≤◌, length}
use Rattle.wrap_map.proofs.NextRuns.{IsPassed}
use Rattle.wrap_map.proofs.waiting.next_run.Given as goal

abbrev pub invariant-loop-run : goal.invariant-loop-run
invariant-loop-run l = record {
  passed : IsPassed l.lines l.width l.out l.run-index l.line;
  counted : l.fn.steps ≤ l.steps;
  steps : (h : ℕ) → length l.lines < 2 * 6 ^ (h + 1) → l.steps ≤ l.fn.steps + l.run-index * (2 * (h + 1));
}
