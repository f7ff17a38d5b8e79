-- The lines before those that are left were written.
use Rattle.std.proofs.Common.{drop, map}
use Rattle.script_runner.specs.CaretLines.{span_line}
use Rattle.script_runner.proofs.Fronts.{AreWrittenWith}
use Rattle.script_runner.proofs.carets.write_spans.Given as goal

abbrev pub invariant-loop-span : goal.invariant-loop-span
invariant-loop-span g l =
    AreWrittenWith l.prefix (map span_line l.spans) (map span_line (drop l.span-index l.spans)) (g.K.Sink.state l.initial.out) (g.K.Sink.state l.out)
