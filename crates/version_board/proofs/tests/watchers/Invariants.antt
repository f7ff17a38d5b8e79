use Rattle.std.proofs.Common.{◌≡◌, All, vec_len}
use Rattle.version_board.proofs.tests.watchers.Given as goal

abbrev pub invariant-loop-reader : goal.invariant-loop-reader
invariant-loop-reader l = record {
  left : All (λ r. r.board ≡ l.like.board) l.readers.items;
  team : All (λ w. w.reader.board ≡ l.like.board) l.team.items;
}

abbrev pub decreases-loop-reader : goal.decreases-loop-reader
decreases-loop-reader l = vec_len l.readers
