-- What each watcher saw stands behind what those before it saw.
use Rattle.std.proofs.Common.{ap, ◌∙◌, arith}
use Rattle.board_watch.specs.declared.seen.Watched.{Watched}
use Rattle.script_runner.specs.declared.stop.Stop.{Stop}
use Rattle.script_runner.specs.Output.{printed, watch_lines}
use Rattle.script_runner.specs.Writing.{IsUnwritten}
use Rattle.script_runner.proofs.Results.{err-same}
use Rattle.display_cli.proofs.Watches.{lists-unwritten, lists-written, lists_of}
use Rattle.display_cli.proofs.watch.write_watched.Goals as goal

pub returns-in_err-write_seen-clause-stopped : goal.returns-in_err-write_seen-clause-stopped
returns-in_err-write_seen-clause-stopped g c =
    let one : Watched = c.index-watched-reader.result in
    let P : Stop → Type 0 = IsUnwritten (printed (watch_lines 0 (lists_of c.args.watched.now))) (g.K.Sink.state c.args.out.now) (g.K.Sink.state c.write_seen.new.out) in
    err-same c.from_residual.result c.in_err-write_seen.field-0.0 P c.from_residual.ensures.1
    (lists-unwritten c.args.watched.now c.loop-reader.reader one (omega arith) (g.K.Sink.state c.args.out.now) (g.K.Sink.state c.loop-reader.out)
    (g.K.Sink.state c.write_seen.new.out) c.loop-reader.invariant c.as_slice.result.now (c.as_slice.ensures.value ∙ ap (λ (w : Watched). w.seen.items) c.index-watched-reader.is)
    c.in_err-write_seen.field-0.0 c.in_err-write_seen.ensures.stopped)

pub loop-reader-preserved : goal.loop-reader-preserved
loop-reader-preserved g c =
    let one : Watched = c.index-watched-reader.result in
    lists-written c.args.watched.now c.loop-reader.reader one (omega arith) (g.K.Sink.state c.args.out.now) (g.K.Sink.state c.loop-reader.out)
    (g.K.Sink.state c.write_seen.new.out) c.loop-reader.invariant c.as_slice.result.now (c.as_slice.ensures.value ∙ ap (λ (w : Watched). w.seen.items) c.index-watched-reader.is)
    c.in_ok-write_seen.ensures.written
