-- The lines before those of the watchers that are left were written.
use Rattle.std.proofs.Common.{drop}
use Rattle.script_runner.specs.Output.{watch_lines}
use Rattle.script_runner.proofs.Fronts.{AreWritten}
use Rattle.display_cli.proofs.Watches.{lists_of}
use Rattle.display_cli.proofs.watch.write_watched.Given as goal

abbrev pub invariant-loop-reader : goal.invariant-loop-reader
invariant-loop-reader g l =
    AreWritten (watch_lines 0 (lists_of l.watched)) (watch_lines l.reader (lists_of (drop l.reader l.watched))) (g.K.Sink.state l.initial.out) (g.K.Sink.state l.out)
