-- Every view is settled, and its last version is published.
use Rattle.std.proofs.Common.{◌+◌, ◌≤◌, length, slice_index_or, arith}
use Rattle.display_map.specs.Events.{event_limit}
use Rattle.live_display.specs.declared.owner.TheConstants.{EVENTS_AHEAD}
use Rattle.script_runner.specs.declared.stop.Stop.TheVariants as stops
use Rattle.split_runner.specs.Going.{at, stage}
use Rattle.split_runner.proofs.LineHandled.{goes-idle}
use Rattle.split_runner.proofs.PlayHandled.{finish-done, finish-full, finish-short, finish-unsettled, finished-cut}
use Rattle.split_runner.proofs.runner.Runner.finish.Goals as goal

pub settle-requires : goal.settle-requires
settle-requires g c = goes-idle (stage g.K.Sink.state c.args.self.now) c.requires

pub publish_all-requires : goal.publish_all-requires
publish_all-requires g c = λ k d lt.
    (let it : length (slice_index_or c.settle.new.self.split k d).events + (EVENTS_AHEAD + 0) ≤ event_limit = c.in_ok-check_room.ensures.room k d lt in
    omega (arith, it))

pub returns-in_err-settle-clause-finished : goal.returns-in_err-settle-clause-finished
returns-in_err-settle-clause-finished g c =
    finished-cut (stage g.K.Sink.state c.args.self.now) (stage g.K.Sink.state c.settle.new.self) c.from_residual.result c.in_err-settle.field-0.0
    c.from_residual.ensures.1
    (finish-unsettled (stage g.K.Sink.state c.args.self.now) (stage g.K.Sink.state c.settle.new.self) c.in_err-settle.field-0.0 c.in_err-settle.ensures.settled)

pub returns-in_err-check_room-clause-finished : goal.returns-in_err-check_room-clause-finished
returns-in_err-check_room-clause-finished g c =
    finished-cut (stage g.K.Sink.state c.args.self.now) (stage g.K.Sink.state c.settle.new.self) c.from_residual-in_err-check_room.result
    c.in_err-check_room.field-0.0 c.from_residual-in_err-check_room.ensures.1
    (finish-full (stage g.K.Sink.state c.args.self.now) (stage g.K.Sink.state c.settle.new.self) c.in_err-check_room.field-0.0
    c.in_ok-settle.ensures.settled c.in_err-check_room.ensures.full)

pub returns-in_err-publish_all-clause-finished : goal.returns-in_err-publish_all-clause-finished
returns-in_err-publish_all-clause-finished g c =
    let s = stage g.K.Sink.state c.settle.new.self in
    finished-cut (stage g.K.Sink.state c.args.self.now) (at c.publish_all.new.self s.undo s.sink) c.from_residual-in_err-publish_all.result stops.Memory
    c.from_residual-in_err-publish_all.ensures.1
    (finish-short (stage g.K.Sink.state c.args.self.now) s c.publish_all.new.self c.in_ok-settle.ensures.settled c.in_err-publish_all.ensures.some)

pub returns-clause-finished : goal.returns-clause-finished
returns-clause-finished g c =
    finish-done (stage g.K.Sink.state c.args.self.now) (stage g.K.Sink.state c.settle.new.self) c.publish_all.new.self c.in_ok-settle.ensures.settled
    c.in_ok-publish_all.ensures.published
