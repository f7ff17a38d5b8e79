use Rattle.std.proofs.Common.{◌≡◌, ℕ, ◌+◌, ◌-◌, ◌*◌, ◌^◌, ◌<◌, ◌≤◌, ◌++◌, length}
use Rattle.mark_tree.specs.Meeting.{met_from}
use Rattle.mark_tree.proofs.spaced.Spaced.all_met.Given as goal

abbrev pub invariant-loop-ranges : goal.invariant-loop-ranges
invariant-loop-ranges g l = record {
  within : l.at ≤ length l.self;
  rest : met_from l.start l.end 0 l.self ≡ l.ranges.items ++ met_from l.start l.end l.at l.self;
  counted : l.initial.steps ≤ l.steps;
  steps : (h : ℕ) → length l.self < 2 * 6 ^ (h + 1) → l.steps ≤ l.initial.steps + 82 * (h + 1) * length l.ranges.items;
}

abbrev pub decreases-loop-ranges : goal.decreases-loop-ranges
decreases-loop-ranges g l = length l.self - l.at
