-- The line is recorded, and then its answer is written.
use Rattle.std.proofs.Common.{length, refl, sym}
use Rattle.edit_script.specs.Commands.{AskCaret}
use Rattle.edit_script.specs.Verdict.{Accepted}
use Rattle.script_runner.specs.inside.Carets.{lines_of}
use Rattle.script_runner.specs.Going.{at}
use Rattle.script_runner.proofs.Handled.{short-begun, short-recorded, lines-written, lines-unwritten, handles-counted}
use Rattle.script_runner.proofs.Sends.{may-handle}
use Rattle.script_runner.proofs.runner.Runner.answer_caret.Goals as goal

pub returns-in_err-answer-clause-handled : goal.returns-in_err-answer-clause-handled
returns-in_err-answer-clause-handled g c =
    short-begun c.args.self.now.owner.crew.workers c.args.number c.args.self.now.owner.display (g.K.Sink.state c.args.self.now.out.now) c.requires.abreast.room
    (Accepted (AskCaret c.args.query.now)) c.from_residual.result c.from_residual.ensures.1

pub returns-in_err-record_line-clause-handled : goal.returns-in_err-record_line-clause-handled
returns-in_err-record_line-clause-handled g c =
    short-recorded c.args.self.now.owner.crew.workers c.args.number c.args.self.now.owner.display (g.K.Sink.state c.args.self.now.out.now)
    c.requires.abreast.room (Accepted (AskCaret c.args.query.now)) c.record_line.new.owner.display c.from_residual-in_err-record_line.result
    c.in_err-record_line.field-0.0 c.from_residual-in_err-record_line.ensures.1 c.in_err-record_line.ensures.unchanged c.in_err-record_line.ensures.why

pub returns-in_err-lines-clause-handled : goal.returns-in_err-lines-clause-handled
returns-in_err-lines-clause-handled g c =
    lines-unwritten c.args.self.now.owner.crew.workers c.args.number c.args.self.now.owner.display (g.K.Sink.state c.args.self.now.out.now)
    (Accepted (AskCaret c.args.query.now)) (may-handle c.args.self.now.owner (Accepted (AskCaret c.args.query.now)) c.requires.abreast c.requires.settled)
    c.record_line.new.owner.display c.in_ok-record_line.ensures.recorded (AskCaret c.args.query.now) (lines_of c.in_ok-answer.answer)
    (g.K.Sink.state c.write_caret_answer.new.out) c.from_residual-in_err-lines.result c.in_err-lines.field-0.0 refl
    c.from_residual-in_err-lines.ensures.1 (sym c.in_ok-answer.ensures) c.in_err-lines.ensures.stopped

pub returns-clause-handled : goal.returns-clause-handled
returns-clause-handled g c =
    handles-counted c.args.self.now.owner.crew.workers c.args.number (at c.args.self.now.owner.display (g.K.Sink.state c.args.self.now.out.now))
    (at c.record_line.new.owner.display (g.K.Sink.state c.write_caret_answer.new.out)) (Accepted (AskCaret c.args.query.now))
    (length (lines_of c.in_ok-answer.answer)) c.in_ok-lines.lines (sym c.in_ok-lines.ensures.lines)
    (lines-written c.args.self.now.owner.crew.workers c.args.number c.args.self.now.owner.display (g.K.Sink.state c.args.self.now.out.now)
    (Accepted (AskCaret c.args.query.now)) (may-handle c.args.self.now.owner (Accepted (AskCaret c.args.query.now)) c.requires.abreast c.requires.settled)
    c.record_line.new.owner.display c.in_ok-record_line.ensures.recorded (AskCaret c.args.query.now) (lines_of c.in_ok-answer.answer)
    (g.K.Sink.state c.write_caret_answer.new.out) refl refl (sym c.in_ok-answer.ensures) c.in_ok-lines.ensures.written)
