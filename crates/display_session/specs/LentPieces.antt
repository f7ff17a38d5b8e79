-- How the pieces of a row are lent: the row's text once, and of each piece how much of it is its own.
use Rattle.std.specs.Prelude.{List, length, Option, Some, None}
use Rattle.std.specs.declared.vec.Vec.{Vec}
use Rattle.row_pieces.specs.declared.row_piece.RowPiece.{RowPiece}
use Rattle.display_session.specs.declared.lent_pieces.LentPiece.{LentPiece}

-- a piece, with the length of its text in place of it
abbrev pub lent_piece : RowPiece → LentPiece
lent_piece p =
    record { kind = p.kind; bytes = length p.text; cells = p.cells; start = p.start; end = p.end }

-- what is lent of a row, if there is one
abbrev pub lent_items : {Z : Type 0} → Option (Vec LentPiece Z) → Option (List LentPiece)
lent_items None = None
lent_items (Some lent) = Some lent.items
