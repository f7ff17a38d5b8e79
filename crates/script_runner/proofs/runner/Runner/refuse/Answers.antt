-- The line is recorded, and then its refusal is written.
use Rattle.std.proofs.Common.{refl}
use Rattle.edit_script.specs.Verdict.{Refused}
use Rattle.script_runner.proofs.Handled.{short-recorded, refusal-written, refusal-unwritten}
use Rattle.script_runner.proofs.Sends.{may-handle}
use Rattle.script_runner.proofs.runner.Runner.refuse.Goals as goal

pub returns-in_err-record_line-clause-handled : goal.returns-in_err-record_line-clause-handled
returns-in_err-record_line-clause-handled g c =
    short-recorded c.args.self.now.owner.crew.workers c.args.number c.args.self.now.owner.display (g.K.Sink.state c.args.self.now.out.now) c.requires.abreast.room
    (Refused c.args.refusal) c.record_line.new.owner.display c.from_residual.result c.in_err-record_line.field-0.0 c.from_residual.ensures.1
    c.in_err-record_line.ensures.unchanged c.in_err-record_line.ensures.why

pub returns-in_err-write_refusal-clause-handled : goal.returns-in_err-write_refusal-clause-handled
returns-in_err-write_refusal-clause-handled g c =
    refusal-unwritten c.args.self.now.owner.crew.workers c.args.number c.args.self.now.owner.display (g.K.Sink.state c.args.self.now.out.now)
    (Refused c.args.refusal) (may-handle c.args.self.now.owner (Refused c.args.refusal) c.requires.abreast c.requires.unsettled)
    c.record_line.new.owner.display c.in_ok-record_line.ensures.recorded c.args.refusal (g.K.Sink.state c.write_refusal.new.out)
    c.from_residual-in_err-write_refusal.result c.in_err-write_refusal.field-0.0 refl c.from_residual-in_err-write_refusal.ensures.1
    c.in_err-write_refusal.ensures.stopped

pub returns-clause-handled : goal.returns-clause-handled
returns-clause-handled g c =
    refusal-written c.args.self.now.owner.crew.workers c.args.number c.args.self.now.owner.display (g.K.Sink.state c.args.self.now.out.now)
    (Refused c.args.refusal) (may-handle c.args.self.now.owner (Refused c.args.refusal) c.requires.abreast c.requires.unsettled)
    c.record_line.new.owner.display c.in_ok-record_line.ensures.recorded c.args.refusal (g.K.Sink.state c.write_refusal.new.out) refl
    c.in_ok-write_refusal.ensures.written
