-- There is room where the least room is enough, and else a journal has too little.
use Rattle.std.proofs.Common.{◌+◌, ◌≤◌, length, slice_index_or, refl, arith}
use Rattle.display_map.specs.Events.{event_limit}
use Rattle.live_display.specs.declared.owner.TheConstants.{EVENTS_AHEAD}
use Rattle.split_runner.proofs.FullViews.{one-full}
use Rattle.split_runner.proofs.runner.Runner.check_room.Goals as goal
use Rattle.split_runner.proofs.runner.Runner.check_room.Goals.{then-room-lt-EVENTS_AHEAD-via-then-room-lt-EVENTS_AHEAD, then-room-lt-EVENTS_AHEAD-via-else-room-lt-EVENTS_AHEAD+then-operations-room}

pub returns-then-room-lt-EVENTS_AHEAD-clause-full : goal.returns-then-room-lt-EVENTS_AHEAD-clause-full
returns-then-room-lt-EVENTS_AHEAD-clause-full g c = (
  refl,
  one-full (EVENTS_AHEAD + c.args.operations) c.args.self.now.split
      (λ all.
      (let most = c.room-room.ensures.greatest (EVENTS_AHEAD + c.args.operations) all in
      elim c.then-room-lt-EVENTS_AHEAD.branch [
        | then-room-lt-EVENTS_AHEAD-via-then-room-lt-EVENTS_AHEAD w ↦ omega (arith, most, w.if-room-lt-EVENTS_AHEAD.true)
        | then-room-lt-EVENTS_AHEAD-via-else-room-lt-EVENTS_AHEAD+then-operations-room w ↦
            omega (arith, most, w.if-room-lt-EVENTS_AHEAD.false, w.if-operations-room.true)
      ])),
)

pub returns-clause-room : goal.returns-clause-room
returns-clause-room g c = λ k d lt.
    (let it : c.room-room.result + length (slice_index_or c.args.self.now.split k d).events ≤ event_limit = c.room-room.ensures.within k d lt in
    omega (arith, it, c.if-room-lt-EVENTS_AHEAD.false, c.if-operations-room.false))
