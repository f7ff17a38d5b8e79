use Rattle.std.proofs.Common.{ℕ, ◌+◌, ◌-◌, ◌*◌, ◌^◌, ◌<◌, ◌≤◌, length, take, count_by}
use Rattle.mark_tree.specs.Entries.{run}
use Rattle.mark_tree.specs.RangeViews.{meets_extent}
use Rattle.mark_tree.proofs.Rounds.{IsMovedTo}
use Rattle.mark_tree.proofs.spaced.Spaced.move_before.Given as goal

abbrev pub invariant-loop-from : goal.invariant-loop-from
invariant-loop-from g l = record {
  moved : IsMovedTo l.shift l.first l.initial.self l.at l.self;
  counted : l.initial.steps ≤ l.steps;
  steps : (h : ℕ) → length l.initial.self < 2 * 6 ^ (h + 1) → l.steps + 250 * (h + 1) * count_by (meets_extent l.shift) (run l.at l.first l.initial.self) ≤ l.initial.steps + 250 * (h + 1) * count_by (meets_extent l.shift) (take l.first l.initial.self);
}

abbrev pub decreases-loop-from : goal.decreases-loop-from
decreases-loop-from g l = l.first - l.at
