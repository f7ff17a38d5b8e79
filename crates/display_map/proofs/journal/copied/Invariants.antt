use Rattle.std.proofs.Common.{◌≡◌, take}
use Rattle.display_map.specs.Events.{events_of}
use Rattle.display_map.proofs.journal.copied.Given as goal

abbrev pub invariant-loop-event : goal.invariant-loop-event
invariant-loop-event l = events_of l.copy.items ≡ events_of (take l.event-index l.events)
