-- The lines before those that are left were written.
use Rattle.std.proofs.Common.{drop, map}
use Rattle.script_runner.specs.Output.{watch_line}
use Rattle.script_runner.proofs.Fronts.{AreWritten}
use Rattle.display_cli.proofs.watch.write_seen.Given as goal

abbrev pub invariant-loop-one : goal.invariant-loop-one
invariant-loop-one g l =
    AreWritten (map (watch_line l.reader) l.seen) (map (watch_line l.reader) (drop l.one-index l.seen)) (g.K.Sink.state l.initial.out) (g.K.Sink.state l.out)
