-- The line is recorded, and nothing is written.
use Rattle.std.proofs.Common.{[], refl}
use Rattle.edit_script.specs.Commands.{Settle}
use Rattle.edit_script.specs.Verdict.{Accepted}
use Rattle.script_runner.proofs.Fronts.{takes-none}
use Rattle.script_runner.proofs.Handled.{short-recorded, lines-written}
use Rattle.script_runner.proofs.Sends.{may-handle}
use Rattle.script_runner.proofs.runner.Runner.settled.Goals as goal

pub returns-in_err-record_line-clause-handled : goal.returns-in_err-record_line-clause-handled
returns-in_err-record_line-clause-handled g c =
    short-recorded c.args.self.now.owner.crew.workers c.args.number c.args.self.now.owner.display (g.K.Sink.state c.args.self.now.out.now)
    c.requires.abreast.room (Accepted Settle) c.record_line.new.owner.display c.from_residual.result c.in_err-record_line.field-0.0
    c.from_residual.ensures.1 c.in_err-record_line.ensures.unchanged c.in_err-record_line.ensures.why

pub returns-clause-handled : goal.returns-clause-handled
returns-clause-handled g c =
    lines-written c.args.self.now.owner.crew.workers c.args.number c.args.self.now.owner.display (g.K.Sink.state c.args.self.now.out.now)
    (Accepted Settle) (may-handle c.args.self.now.owner (Accepted Settle) c.requires.abreast c.requires.settled) c.record_line.new.owner.display
    c.in_ok-record_line.ensures.recorded Settle [] (g.K.Sink.state c.args.self.now.out.now) refl refl refl (takes-none (g.K.Sink.state c.args.self.now.out.now))
