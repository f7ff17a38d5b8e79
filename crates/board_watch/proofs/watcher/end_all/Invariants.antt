use Rattle.std.proofs.Common.{◌≡◌, All, true}
use Rattle.std.specs.List.{AllZip}
use Rattle.display_map.specs.Replay.{ends}
use Rattle.board_watch.specs.Watching.{Gives, IsWatched}
use Rattle.board_watch.proofs.watcher.end_all.Given as goal

abbrev pub invariant-loop-watcher : goal.invariant-loop-watcher
invariant-loop-watcher l = record {
  gives : AllZip Gives l.yielded l.watched.items;
  seen : ends l.initial.writer.newest.events ≡ true → All (λ w. IsWatched l.initial.writer.newest w.seen.items) l.watched.items;
  writer : l.writer ≡ l.initial.writer;
}
