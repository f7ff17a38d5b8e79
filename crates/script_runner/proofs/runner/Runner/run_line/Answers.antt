-- A blank line changes nothing, and any other is handled behind the results that are there.
use Rattle.std.proofs.Common.{◌+◌, ◌∙◌, sym, ◌∷◌}
use Rattle.script_runner.proofs.Handled.{handled-err}
use Rattle.script_runner.proofs.Played.{over-blank, at-line}
use Rattle.script_runner.specs.Going.{at, numbered_from}
use Rattle.script_runner.proofs.runner.Runner.run_line.Goals as goal

pub returns-then-skipped-clause-handled : goal.returns-then-skipped-clause-handled
returns-then-skipped-clause-handled g c course lines tally same going =
    over-blank course c.args.self.now.form c.args.number c.args.line.now lines tally (at c.args.self.now.owner.display (g.K.Sink.state c.args.self.now.out.now)) going
    (sym c.skipped.ensures ∙ c.if-skipped.true)

pub returns-in_err-land_ready-clause-handled : goal.returns-in_err-land_ready-clause-handled
returns-in_err-land_ready-clause-handled g c course lines tally same going =
    handled-err course (numbered_from c.args.self.now.form (c.args.number + 1) lines) tally (at c.land_ready.new.owner.display (g.K.Sink.state c.args.self.now.out.now))
    c.from_residual.result c.in_err-land_ready.field-0.0 c.from_residual.ensures.1
    (c.in_err-land_ready.ensures.going course (numbered_from c.args.self.now.form c.args.number (c.args.line.now ∷ lines)) tally (g.K.Sink.state c.args.self.now.out.now) same going)

pub returns-clause-handled : goal.returns-clause-handled
returns-clause-handled g c course lines tally same going =
    let line = at-line course c.args.self.now.form c.args.number c.args.line.now lines tally (at c.args.self.now.owner.display (g.K.Sink.state c.args.self.now.out.now)) going
    (sym c.skipped.ensures ∙ c.if-skipped.false) in
    c.handle_line.ensures.handled course (numbered_from c.args.self.now.form (c.args.number + 1) lines) tally (same ∙ sym c.land_ready.ensures.team.workers)
    (c.in_ok-land_ready.ensures.going course _ tally (g.K.Sink.state c.args.self.now.out.now) same line)
