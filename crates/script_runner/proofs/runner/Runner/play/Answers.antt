-- The lines are handled, and then the last version is published.
use Rattle.std.proofs.Common.{sym, ◌∙◌}
use Rattle.script_runner.specs.Going.{at, stage}
use Rattle.script_runner.proofs.Played.{ended-err}
use Rattle.script_runner.proofs.runner.Runner.play.Goals as goal

pub returns-in_err-tally-clause-played : goal.returns-in_err-tally-clause-played
returns-in_err-tally-clause-played g c course same going =
    ended-err course (stage g.K.Sink.state c.run_script.new.self) c.from_residual.result c.in_err-tally.field-0.0 c.from_residual.ensures.1
    (c.in_err-tally.ensures.handled course same going)

pub returns-in_err-finish-clause-played : goal.returns-in_err-finish-clause-played
returns-in_err-finish-clause-played g c course same going =
    ended-err course (at c.finish.new.owner.display (g.K.Sink.state c.run_script.new.self.out.now)) c.from_residual-in_err-finish.result c.in_err-finish.field-0.0
    c.from_residual-in_err-finish.ensures.1
    (c.in_err-finish.ensures.ends course c.in_ok-tally.tally (g.K.Sink.state c.run_script.new.self.out.now) (same ∙ sym c.run_script.ensures.team.workers)
    (c.in_ok-tally.ensures.handled course same going))

pub returns-clause-played : goal.returns-clause-played
returns-clause-played g c course same going =
    c.in_ok-finish.ensures.ends course c.in_ok-tally.tally (g.K.Sink.state c.run_script.new.self.out.now) (same ∙ sym c.run_script.ensures.team.workers)
    (c.in_ok-tally.ensures.handled course same going)
