-- The text has those of the first so many pieces.
use Rattle.std.proofs.Common.{◌≡◌, take}
use Rattle.std.specs.Prelude.{string_bytes}
use Rattle.row_pieces.specs.Pieces.{text_of}
use Rattle.display_session.proofs.lent_pieces.joined_text.Given as goal

abbrev pub invariant-loop-piece : goal.invariant-loop-piece
invariant-loop-piece l = string_bytes l.text ≡ text_of (take l.piece-index l.pieces)
