use Rattle.std.proofs.Common.{◌≡◌, ℕ, ◌+◌, ◌-◌, ◌*◌, ◌^◌, ◌<◌, ◌≤◌, true, false, length, get_or}
use Rattle.mark_tree.specs.declared.entry.Placed.{Placed}
use Rattle.mark_tree.specs.Order.{key_le, key_of}
use Rattle.mark_tree.proofs.spaced.Spaced.place_for.Given as goal

-- The place lies between the two, and `left` more rounds find it.
abbrev pub invariant-loop-low : goal.invariant-loop-low
invariant-loop-low g l = record {
  order : l.low ≤ l.high;
  within : l.high ≤ length l.self;
  less : (k : ℕ) (d : Placed g.row.P.Denot) → k < l.low → key_le l.key (key_of (get_or l.self k d)) ≡ false;
  not_less : (d : Placed g.row.P.Denot) → l.high < length l.self → key_le l.key (key_of (get_or l.self l.high d)) ≡ true;
  left : ℕ;
  few : left ≤ 32;
  narrow : l.high - l.low < 2 ^ left;
  counted : l.fn.steps ≤ l.steps;
  steps : (h : ℕ) → length l.self < 2 * 6 ^ (h + 1) → l.steps ≤ l.fn.steps + (h + 1) * (34 - left);
}

abbrev pub decreases-loop-low : goal.decreases-loop-low
decreases-loop-low g l = l.high - l.low
