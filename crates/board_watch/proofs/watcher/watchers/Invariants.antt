use Rattle.std.proofs.Common.{◌≡◌, All, [], map}
use Rattle.board_watch.proofs.watcher.watchers.Given as goal

abbrev pub invariant-loop-reader : goal.invariant-loop-reader
invariant-loop-reader l = record {
  known : map (λ w. w.known) l.team.items ≡ l.yielded;
  unseen : All (λ w. w.seen ≡ []) l.team.items;
}
