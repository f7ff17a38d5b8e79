use Rattle.std.proofs.Common.{ℕ, ◌+◌, ◌-◌, ◌*◌, ◌^◌, ◌<◌, ◌≤◌}
use Rattle.block_map.specs.Bounds.{IsHeight}
use Rattle.block_map.specs.inside.Seekings.{IsWindow}
use Rattle.block_map.proofs.snapshot.BlockSnapshot.place_of.Given as goal

-- No more is open than there is room for, and `left` more looks use the room up.
abbrev pub invariant-seek : goal.invariant-seek
invariant-seek g l = record {
  window : IsWindow l.self l.row l.window;
  opened : l.window.high - l.window.next ≤ l.room;
  left : ℕ;
  few : left ≤ 32;
  room : l.room < 2 ^ left;
  counted : l.fn.steps ≤ l.steps;
  steps : (h : ℕ) → IsHeight h l.self → l.steps ≤ l.fn.steps + (2 * (h + 1)) * (32 - left);
}

abbrev pub decreases-seek : goal.decreases-seek
decreases-seek g l = l.window.high - l.window.next
