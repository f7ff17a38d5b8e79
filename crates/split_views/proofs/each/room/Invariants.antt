-- Of the displays so far.
use Rattle.std.proofs.Common.{ℕ, ◌+◌, ◌≤◌, length, take}
use Rattle.std.specs.List.{All}
use Rattle.display_map.specs.Events.{event_limit}
use Rattle.split_views.proofs.each.room.Given as goal

abbrev pub invariant-loop-display : goal.invariant-loop-display
invariant-loop-display g l = record {
  within : All (λ h. l.room + length h.events ≤ event_limit) (take l.display-index l.displays);
  greatest : (n : ℕ) → n ≤ event_limit → All (λ h. n + length h.events ≤ event_limit) (take l.display-index l.displays) → n ≤ l.room;
}
