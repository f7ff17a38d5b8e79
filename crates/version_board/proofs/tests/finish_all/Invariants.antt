use Rattle.std.proofs.Common.{◌≡◌, All, vec_len}
use Rattle.version_board.proofs.tests.finish_all.Given as goal

abbrev pub invariant-loop-reader : goal.invariant-loop-reader
invariant-loop-reader l = All (λ w. w.reader.board ≡ l.writer.board) l.team.items

abbrev pub decreases-loop-reader : goal.decreases-loop-reader
decreases-loop-reader l = vec_len l.team
