use Rattle.std.proofs.Common.{◌≡◌}
use Rattle.version_board.specs.inside.Ties.{IsTied, known_at}
use Rattle.version_board.proofs.make.seat_all.Given as goal

abbrev pub invariant-loop-at : goal.invariant-loop-at
invariant-loop-at l = record {
  tied : IsTied l.newest.board (known_at l.desk.desk.place);
  team : l.team.items ≡ l.initial.team.items;
  shown : l.desk.desk.shown ≡ l.initial.desk.desk.shown;
}
