-- Lists that a call gives, as lists.
use Rattle.std.specs.Prelude.{List, Option, Some, None, map}
use Rattle.std.specs.declared.vec.Vec.{Vec}
use Rattle.row_pieces.specs.declared.row_piece.RowPiece.{RowPiece}

-- the pieces of each row
abbrev pub lists_of : {Z : Type 0} → List (Vec RowPiece Z) → List (List RowPiece)
lists_of rows = map (λ row. row.items) rows

-- the pieces of a row, if there is one
abbrev pub listed : {Z : Type 0} → Option (Vec RowPiece Z) → Option (List RowPiece)
listed None = None
listed (Some row) = Some row.items
