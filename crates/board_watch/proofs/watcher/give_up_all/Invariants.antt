use Rattle.std.proofs.Common.{◌≡◌, All, map}
use Rattle.board_watch.specs.Watching.{AreRising}
use Rattle.board_watch.proofs.watcher.give_up_all.Given as goal

abbrev pub invariant-loop-watcher : goal.invariant-loop-watcher
invariant-loop-watcher l = record {
  seen : map (λ w. w.seen.items) l.watched.items ≡ map (λ w. w.seen) l.yielded;
  rising : All (λ w. AreRising 0 w.seen.items) l.watched.items;
}
