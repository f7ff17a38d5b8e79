use Rattle.std.proofs.Common.{◌≡◌}
use Rattle.version_board.proofs.tests.Watcher.watch.Given as goal

abbrev pub invariant-loop : goal.invariant-loop
invariant-loop l = l.self.reader.board ≡ l.initial.self.reader.board
