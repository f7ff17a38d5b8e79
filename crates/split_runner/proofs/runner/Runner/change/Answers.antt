-- There is room, and the change is done in every view or in one.
use Rattle.std.proofs.Common.{◌+◌, ◌≤◌, ◌∙◌, length, slice_index_or, sym, ap, arith}
use Rattle.std.specs.Option.{option_copied}
use Rattle.display_map.specs.Events.{event_limit}
use Rattle.live_display.specs.declared.owner.TheConstants.{EVENTS_AHEAD}
use Rattle.split_runner.specs.Going.{stage}
use Rattle.split_runner.proofs.LineHandled.{change-full}
use Rattle.split_runner.proofs.runner.Runner.change.Goals as goal

pub edit-requires-clause-room : goal.edit-requires-clause-room
edit-requires-clause-room g c = λ k d lt.
    (let it : length (slice_index_or c.args.self.now.split k d).events + (EVENTS_AHEAD + c.operations.result) ≤ event_limit = c.in_ok-check_room.ensures.room k d lt in
    let most = c.operations.ensures.most in
    omega (arith, it, most))

pub edit-requires-clause-batch : goal.edit-requires-clause-batch
edit-requires-clause-batch g c = sym c.batch_of.ensures ∙ ap option_copied c.in-Some.is

pub adjust-requires-clause-room : goal.adjust-requires-clause-room
adjust-requires-clause-room g c = λ k d lt.
    (let it : length (slice_index_or c.args.self.now.split k d).events + (EVENTS_AHEAD + c.operations.result) ≤ event_limit = c.in_ok-check_room.ensures.room k d lt in
    let most = c.operations.ensures.most in
    omega (arith, it, most))

pub adjust-requires-clause-alone : goal.adjust-requires-clause-alone
adjust-requires-clause-alone g c = sym c.batch_of.ensures ∙ ap option_copied c.in-None.is

pub returns-in_err-check_room-clause-handled : goal.returns-in_err-check_room-clause-handled
returns-in_err-check_room-clause-handled g c =
    change-full c.args.number c.args.view (stage g.K.Sink.state c.args.self.now) c.args.change.now c.operations.result c.in_err-check_room.field-0.0
    c.from_residual.result c.from_residual.ensures.1 c.requires.may.there c.operations.ensures.asked c.in_err-check_room.ensures.full

pub returns-in-Some-clause-handled : goal.returns-in-Some-clause-handled
returns-in-Some-clause-handled g c = λ bytes is asked. c.edit.ensures.handled bytes is

pub returns-in-None-clause-handled : goal.returns-in-None-clause-handled
returns-in-None-clause-handled g c = λ bytes is asked. c.adjust.ensures.handled bytes is
