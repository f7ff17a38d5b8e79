-- The refusal is written.
use Rattle.split_runner.proofs.UndoHandled.{refused-unwritten, refused-written}
use Rattle.split_runner.proofs.runner.Runner.refuse_astray.Goals as goal

pub returns-in_err-write_refusal-clause-handled : goal.returns-in_err-write_refusal-clause-handled
returns-in_err-write_refusal-clause-handled g c =
    refused-unwritten c.args.self.now.split c.args.self.now.undo (g.K.Sink.state c.args.self.now.out.now) (g.K.Sink.state c.write_refusal.new.out)
    c.args.refusal c.from_residual.result c.in_err-write_refusal.field-0.0 c.from_residual.ensures.1 c.in_err-write_refusal.ensures.stopped

pub returns-clause-handled : goal.returns-clause-handled
returns-clause-handled g c =
    refused-written c.args.self.now.split c.args.self.now.undo (g.K.Sink.state c.args.self.now.out.now) (g.K.Sink.state c.write_refusal.new.out)
    c.args.refusal c.in_ok-write_refusal.ensures.written
