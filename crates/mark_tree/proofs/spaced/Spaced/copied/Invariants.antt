use Rattle.std.proofs.Common.{◌≡◌, ℕ, ◌+◌, ◌-◌, ◌*◌, ◌^◌, ◌<◌, ◌≤◌, length, take, drop}
use Rattle.mark_tree.proofs.spaced.Spaced.copied.Given as goal

abbrev pub invariant-loop-at : goal.invariant-loop-at
invariant-loop-at g l = record {
  copies : l.copies.items ≡ take (l.at - l.from) (drop l.from l.self);
  counted : l.initial.steps ≤ l.steps;
  steps : (h : ℕ) → length l.self < 2 * 6 ^ (h + 1) → l.steps ≤ l.initial.steps + (h + 1) * (l.at - l.from);
}
