-- The first so many pieces are lent.
use Rattle.std.proofs.Common.{◌≡◌, map, take}
use Rattle.display_session.specs.LentPieces.{lent_piece}
use Rattle.display_session.proofs.lent_pieces.lent_pieces.Given as goal

abbrev pub invariant-loop-piece : goal.invariant-loop-piece
invariant-loop-piece l = l.lent.items ≡ map lent_piece (take l.piece-index l.pieces)
