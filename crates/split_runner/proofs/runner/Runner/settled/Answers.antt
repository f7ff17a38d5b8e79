-- The line is noted, and there is nothing to write.
use Rattle.std.proofs.Common.{◌+◌, ◌≤◌, false, [], length, refl, arith}
use Rattle.display_map.specs.Events.{event_limit}
use Rattle.edit_script.specs.Commands.{Settle}
use Rattle.edit_script.specs.Verdict.{Accepted}
use Rattle.live_display.specs.declared.owner.TheConstants.{EVENTS_AHEAD}
use Rattle.script_runner.proofs.Fronts.{takes-none}
use Rattle.split_views.specs.Views.{history_of}
use Rattle.split_script.specs.Lines.{Own}
use Rattle.split_runner.proofs.OwnHandled.{line-short, own-written}
use Rattle.split_runner.proofs.Verdicts.{settle-calm}
use Rattle.split_runner.proofs.runner.Runner.settled.Goals as goal

pub note_line-requires-clause-room : goal.note_line-requires-clause-room
note_line-requires-clause-room g c =
    let it : length (history_of c.args.self.now.split c.args.view).events + EVENTS_AHEAD ≤ event_limit =
    c.requires.room c.args.view (record { opening = []; events = [] }) c.requires.there in
    omega (arith, it)

pub returns-in_err-note_line-clause-handled : goal.returns-in_err-note_line-clause-handled
returns-in_err-note_line-clause-handled g c bytes is =
    line-short c.args.number (Own c.args.view bytes) c.args.self.now.split c.note_line.new.self c.args.self.now.undo c.args.self.now.undo
    (g.K.Sink.state c.args.self.now.out.now) c.from_residual.result c.from_residual.ensures.1 c.in_err-note_line.ensures.unchanged

pub returns-clause-handled : goal.returns-clause-handled
returns-clause-handled g c =
    let sink = g.K.Sink.state c.args.self.now.out.now in
    own-written c.args.number c.args.view c.args.self.now.split c.note_line.new.self c.args.self.now.undo sink sink
    (Accepted Settle) settle-calm c.requires.there c.in_ok-note_line.ensures.noted false refl (takes-none sink)
