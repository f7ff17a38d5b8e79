-- The play stopped, or its summary was written, or it wasn't.
use Rattle.display_cli.proofs.Made.{reports-all, reports-err, reports-not, reports-stopped}
use Rattle.display_cli.proofs.summary.report.Goals as goal

pub returns-in_err-tally-clause-reports : goal.returns-in_err-tally-clause-reports
returns-in_err-tally-clause-reports g c =
    reports-err c.args.played c.args.display.now (g.K.Sink.state c.args.out.now) (g.K.Sink.state c.args.out.now) c.from_residual.result
    c.in_err-tally.field-0.0 c.from_residual.ensures.1
    (reports-stopped c.args.played c.args.display.now (g.K.Sink.state c.args.out.now) c.in_err-tally.field-0.0 c.in_err-tally.was)

pub returns-in_err-write_summary-clause-reports : goal.returns-in_err-write_summary-clause-reports
returns-in_err-write_summary-clause-reports g c =
    reports-err c.args.played c.args.display.now (g.K.Sink.state c.args.out.now) (g.K.Sink.state c.write_summary.new.out)
    c.from_residual-in_err-write_summary.result c.in_err-write_summary.field-0.0 c.from_residual-in_err-write_summary.ensures.1
    (reports-not c.args.played c.args.display.now (g.K.Sink.state c.args.out.now) c.in_ok-tally.tally c.in_ok-tally.was
    (g.K.Sink.state c.write_summary.new.out) c.in_err-write_summary.field-0.0 c.in_err-write_summary.ensures.stopped)

pub returns-clause-reports : goal.returns-clause-reports
returns-clause-reports g c =
    reports-all c.args.played c.args.display.now (g.K.Sink.state c.args.out.now) c.in_ok-tally.tally c.in_ok-tally.was
    (g.K.Sink.state c.write_summary.new.out) c.in_ok-write_summary.ensures.written
