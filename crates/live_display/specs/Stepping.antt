-- One step of an owner.
use Rattle.std.specs.Prelude.{◌≡◌, ◌+◌, ◌<◌, ◌≤◌, Bool, true, false, List, [], length}
use Rattle.crossbeam_channel.specs.Fifo.{Held}
use Rattle.cell_line.specs.declared.element.Element.{Element}
use Rattle.wrap_workers.specs.Jobs.{JobParts}
use Rattle.wrap_workers.specs.Owed.{WereOwed}
use Rattle.wrap_workers.specs.Posted.{WerePosted}
use Rattle.display_map.specs.Events.{event_limit}
use Rattle.display_map.specs.Replay.{History}
use Rattle.live_display.specs.declared.owner.Owner.{Owner}
use Rattle.live_display.specs.Beside.{HasGone, GoesWithout, is_any_landing, is_send}
use Rattle.live_display.specs.Owned.{IsBusy}

-- a run was sent, with one event, or no more can be sent and nothing happened
abbrev pub HasSent : Owner → Owner → Bool → Type 0
HasSent old new true =
    HasGone old.crew.workers old.display new.display
    × (length new.display.events ≡ length old.display.events + 1) × (length new.display.events ≤ event_limit)
    × GoesWithout is_any_landing old.display new.display
HasSent old new false = IsBusy new × (new.display ≡ old.display)

-- a result landed, with its version
pub record HasLanded (old new : Owner) : Type 0 where
  pub gone : HasGone old.crew.workers old.display new.display
  pub unsent : GoesWithout is_send old.display new.display
  pub longer : length new.display.events ≡ length old.display.events + 2
  pub within : length new.display.events ≤ event_limit

-- the queue of results was empty at a moment at which these jobs were out
abbrev pub WasEmpty : List (JobParts (List (List Element))) → Type 0
WasEmpty out = Held 0 (λ results. WereOwed out results)

-- no job waits: none in the crew's own place, and at a moment none in the queue of tasks
pub record IsIdle (owner : Owner) : Type 0 where
  pub kept : owner.crew.kept ≡ []
  pub tasks : Held 0 (λ tasks. WerePosted {N = List (List Element)} tasks)

-- a result landed, with its version, and the crew has one job less out; or none was there, and nothing happened
abbrev pub HasLandedOne : Owner → Owner → Bool → Type 0
HasLandedOne old new true = HasLanded old new × (length new.crew.out < length old.crew.out)
HasLandedOne old new false = (new.display ≡ old.display) × WasEmpty new.crew.out

-- the journal had room, and has more events now
abbrev pub IsLonger : History → History → Type 0
IsLonger old new = (length old.events < event_limit) × (length old.events < length new.events)
