-- What the watchers saw is written, or what they saw so far is given.
use Rattle.std.proofs.Common.{List, Err, map, sym, subst, arith}
use Rattle.std.proofs.lemmas.List.{length-map}
use Rattle.std.proofs.lemmas.List.Elements.{All-map}
use Rattle.board_watch.specs.declared.seen.Watched.{Watched}
use Rattle.board_watch.specs.Watching.{AreRising}
use Rattle.script_runner.specs.declared.stop.Stop.TheVariants as stops
use Rattle.script_runner.specs.Outside.{SinkState, Takes}
use Rattle.script_runner.specs.Output.{printed, watched_lines}
use Rattle.display_cli.specs.inside.Opening.{EndsWatch}
use Rattle.script_runner.specs.Writing.{IsUnwritten}
use Rattle.display_cli.proofs.Watches.{ends-short, ends-stopped, ends-unwritten, ends-written}
use Rattle.display_cli.proofs.playing.end_watch.Goals as goal

pub returns-in-Ok-write_watched : goal.returns-in-Ok-write_watched
returns-in-Ok-write_watched g c =
    let watched : List Watched = c.in-Ok-see_last.watched.items in
    let T : List Watched → Type 0 = λ l. Takes (printed (watched_lines l)) (g.K.Sink.state c.args.out.now) (g.K.Sink.state c.write_watched.new.out) in
    ends-written c.args.played c.args.writer.now c.args.team.len (g.K.Sink.state c.args.out.now) c.in-Ok.tally c.in-Ok.is
    (g.K.Sink.state c.write_watched.new.out) (map (λ w. w.seen.items) watched) (subst T c.as_slice.ensures.value c.in-Ok-write_watched.ensures.written)
    (omega (arith, length-map watched (λ w. w.seen.items), c.in-Ok-see_last.ensures.count, c.in-Ok-see_last.watched.ok.0)) c.in-Ok-see_last.ensures.seen

pub returns-in-Err-write_watched : goal.returns-in-Err-write_watched
returns-in-Err-write_watched g c =
    let watched : List Watched = c.in-Ok-see_last.watched.items in
    let T : List Watched → Type 0 =
    λ l. IsUnwritten (printed (watched_lines l)) (g.K.Sink.state c.args.out.now) (g.K.Sink.state c.write_watched.new.out) c.in-Err-write_watched.stop in
    ends-unwritten c.args.played c.args.writer.now c.args.team.len (g.K.Sink.state c.args.out.now) c.in-Ok.tally c.in-Ok.is
    (g.K.Sink.state c.write_watched.new.out) (map (λ w. w.seen.items) watched) c.in-Err-write_watched.stop
    (subst T c.as_slice.ensures.value c.in-Err-write_watched.ensures.stopped)
    (omega (arith, length-map watched (λ w. w.seen.items), c.in-Ok-see_last.ensures.count, c.in-Ok-see_last.watched.ok.0)) c.in-Ok-see_last.ensures.seen

pub returns-in-Err-see_last : goal.returns-in-Err-see_last
returns-in-Err-see_last g c =
    let sink : SinkState = g.K.Sink.state c.args.out.now in
    let E : List Watched → Type 0 =
    λ l. EndsWatch c.args.played c.args.writer.now c.args.team.len sink sink (Err stops.Memory) (map (λ w. w.seen.items) l) in
    subst E (sym c.new.ensures.items) (ends-short c.args.played c.args.writer.now c.args.team.len sink c.in-Ok.tally c.in-Ok.is)

pub returns-in-Err : goal.returns-in-Err
returns-in-Err g c =
    let watched : List Watched = c.give_up_all.result.items in
    ends-stopped c.args.played c.args.writer.now c.args.team.len (g.K.Sink.state c.args.out.now) c.in-Err.stop (map (λ w. w.seen.items) watched) c.in-Err.is
    (omega (arith, length-map watched (λ w. w.seen.items), c.give_up_all.ensures.count, c.give_up_all.result.ok.0))
    (All-map (AreRising 0) (λ (w : Watched). w.seen.items) watched c.give_up_all.ensures.rising)
