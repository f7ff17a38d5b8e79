use Rattle.board_watch.specs.Watching.{WatchesOn}
use Rattle.board_watch.proofs.watcher.Watcher.watch.Given as goal

abbrev pub invariant-loop : goal.invariant-loop
invariant-loop g l = WatchesOn l.initial.self l.self
