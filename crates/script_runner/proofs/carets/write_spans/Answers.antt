-- Each line comes after those that were written before.
use Rattle.std.proofs.Common.{◌∙◌, map, arith}
use Rattle.script_runner.specs.declared.stop.Stop.{Stop}
use Rattle.script_runner.specs.CaretLines.{span_line}
use Rattle.script_runner.specs.Output.{printed_with}
use Rattle.script_runner.specs.Writing.{IsUnwritten}
use Rattle.script_runner.proofs.Fronts.{listed-unwritten, listed-written}
use Rattle.script_runner.proofs.Results.{err-same}
use Rattle.script_runner.proofs.carets.write_spans.Goals as goal

pub returns-in_err-write_prefixed-clause-stopped : goal.returns-in_err-write_prefixed-clause-stopped
returns-in_err-write_prefixed-clause-stopped g c =
    let P : Stop → Type 0 = IsUnwritten (printed_with c.args.prefix.now (map span_line c.args.spans.now)) (g.K.Sink.state c.args.out.now) (g.K.Sink.state c.write_prefixed.new.out) in
    err-same c.from_residual-in_err-write_prefixed.result c.in_err-write_prefixed.field-0.0 P c.from_residual-in_err-write_prefixed.ensures.1
    (listed-unwritten c.args.prefix.now span_line c.args.spans.now c.loop-span.span-index _ (omega arith) (g.K.Sink.state c.args.out.now) (g.K.Sink.state c.loop-span.out)
    (g.K.Sink.state c.write_prefixed.new.out) c.loop-span.invariant c.as_str.result.now c.in_err-write_prefixed.field-0.0
    (c.as_str.ensures ∙ c.in_ok-line.ensures) c.in_err-write_prefixed.ensures.stopped)

pub loop-span-preserved : goal.loop-span-preserved
loop-span-preserved g c =
    listed-written c.args.prefix.now span_line c.args.spans.now c.loop-span.span-index _ (omega arith) (g.K.Sink.state c.args.out.now) (g.K.Sink.state c.loop-span.out)
    (g.K.Sink.state c.write_prefixed.new.out) c.loop-span.invariant c.as_str.result.now (c.as_str.ensures ∙ c.in_ok-line.ensures) c.in_ok-write_prefixed.ensures.written
