-- Wrapping alone.
use Rattle.std.specs.Prelude.{◌≡◌, Bool, true, false, List}
use Rattle.std.specs.List.{list_all}
use Rattle.display_map.specs.Events.{Event, Sent, Landed}
use Rattle.display_map.specs.Replay.{History, appended}

-- an event that only wraps lines: a run is sent, or lands
abbrev pub is_wrapping : Event → Bool
is_wrapping (Sent job first count) = true
is_wrapping (Landed job) = true
is_wrapping _ = false

-- nothing happened but that lines were wrapped
pub record IsWrapped (old new : History) : Type 0 where
  pub more : List Event
  pub since : new ≡ appended old more
  pub each : list_all is_wrapping more ≡ true
