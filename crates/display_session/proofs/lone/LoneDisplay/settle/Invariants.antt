-- Nothing happened but that lines were wrapped, and what they replaced is covered. Each run takes room of the journal.
use Rattle.std.proofs.Common.{◌≡◌, ◌-◌, length, true}
use Rattle.display_map.specs.Events.{event_limit}
use Rattle.display_session.specs.Watches.{asked_at, is_watched}
use Rattle.display_session.specs.Wrapping.{IsWrapped}
use Rattle.display_session.proofs.lone.LoneDisplay.settle.Given as goal

abbrev pub invariant-runs : goal.invariant-runs
invariant-runs l = record {
  wrapped : IsWrapped l.initial.self l.self;
  watched : is_watched l.self l.watch ≡ true;
  asked : asked_at l.watch ≡ asked_at l.initial.watch;
}

abbrev pub decreases-runs : goal.decreases-runs
decreases-runs l = event_limit - length l.self.events
