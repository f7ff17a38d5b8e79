-- The lines of the spans come after that of the range.
use Rattle.std.proofs.Common.{ap, map, ◌∙◌}
use Rattle.script_runner.specs.declared.stop.Stop.{Stop}
use Rattle.script_runner.specs.CaretLines.{range_line, selection_lines, span_line}
use Rattle.script_runner.specs.Output.{printed_with}
use Rattle.script_runner.specs.Writing.{IsUnwritten}
use Rattle.script_runner.proofs.Fronts.{first-unwritten, others-unwritten}
use Rattle.script_runner.proofs.Results.{err-more, err-same}
use Rattle.script_runner.proofs.carets.write_selection.Goals as goal

pub returns-in_err-write_prefixed-clause-stopped : goal.returns-in_err-write_prefixed-clause-stopped
returns-in_err-write_prefixed-clause-stopped g c =
    let s = c.args.selection.now in
    let P : Stop → Type 0 = IsUnwritten (printed_with c.args.prefix.now (selection_lines s.start s.end s.spans.items)) (g.K.Sink.state c.args.out.now) (g.K.Sink.state c.write_prefixed.new.out) in
    err-same c.from_residual-in_err-write_prefixed.result c.in_err-write_prefixed.field-0.0 P c.from_residual-in_err-write_prefixed.ensures.1
    (first-unwritten c.args.prefix.now (range_line s.start s.end) (map span_line s.spans.items) (g.K.Sink.state c.args.out.now) (g.K.Sink.state c.write_prefixed.new.out)
    (g.K.Sink.state c.write_prefixed.new.out) c.as_str.result.now c.in_err-write_prefixed.field-0.0 (c.as_str.ensures ∙ c.in_ok-line.ensures)
    c.in_err-write_prefixed.ensures.stopped)

pub returns-clause-stopped : goal.returns-clause-stopped
returns-clause-stopped g c =
    let s = c.args.selection.now in
    let P : Stop → Type 0 = IsUnwritten (printed_with c.args.prefix.now (map span_line c.as_slice.result.now)) (g.K.Sink.state c.write_prefixed.new.out) (g.K.Sink.state c.write_spans.new.out) in
    let Q : Stop → Type 0 = IsUnwritten (printed_with c.args.prefix.now (selection_lines s.start s.end s.spans.items)) (g.K.Sink.state c.args.out.now) (g.K.Sink.state c.write_spans.new.out) in
    err-more c.write_spans.result P Q (λ stop why.
    others-unwritten c.args.prefix.now (range_line s.start s.end) (map span_line s.spans.items) (g.K.Sink.state c.args.out.now) (g.K.Sink.state c.write_prefixed.new.out)
    (g.K.Sink.state c.write_spans.new.out) c.as_str.result.now stop (c.as_str.ensures ∙ c.in_ok-line.ensures) (map span_line c.as_slice.result.now)
    (ap (map span_line) c.as_slice.ensures.value) c.in_ok-write_prefixed.ensures.written why) c.write_spans.ensures.stopped
