-- Each line stands behind those that were written before.
use Rattle.std.proofs.Common.{[], ◌∙◌, arith}
use Rattle.script_runner.specs.declared.stop.Stop.{Stop}
use Rattle.script_runner.specs.Output.{printed, watch_line}
use Rattle.std.proofs.Common.{map}
use Rattle.script_runner.specs.Writing.{IsUnwritten}
use Rattle.script_runner.proofs.Results.{err-same}
use Rattle.script_runner.proofs.Fronts.{listed-unwritten, listed-written}
use Rattle.display_cli.proofs.watch.write_seen.Goals as goal

pub returns-in_err-write_line-clause-stopped : goal.returns-in_err-write_line-clause-stopped
returns-in_err-write_line-clause-stopped g c =
    let P : Stop → Type 0 = IsUnwritten (printed (map (watch_line c.args.reader) c.args.seen.now)) (g.K.Sink.state c.args.out.now) (g.K.Sink.state c.write_line.new.out) in
    err-same c.from_residual-in_err-write_line.result c.in_err-write_line.field-0.0 P c.from_residual-in_err-write_line.ensures.1
    (listed-unwritten [] (watch_line c.args.reader) c.args.seen.now c.loop-one.one-index _ (omega arith) (g.K.Sink.state c.args.out.now) (g.K.Sink.state c.loop-one.out)
    (g.K.Sink.state c.write_line.new.out) c.loop-one.invariant c.as_str.result.now c.in_err-write_line.field-0.0
    (c.as_str.ensures ∙ c.in_ok-line.ensures) c.in_err-write_line.ensures.stopped)

pub loop-one-preserved : goal.loop-one-preserved
loop-one-preserved g c =
    listed-written [] (watch_line c.args.reader) c.args.seen.now c.loop-one.one-index _ (omega arith) (g.K.Sink.state c.args.out.now) (g.K.Sink.state c.loop-one.out)
    (g.K.Sink.state c.write_line.new.out) c.loop-one.invariant c.as_str.result.now (c.as_str.ensures ∙ c.in_ok-line.ensures) c.in_ok-write_line.ensures.written
