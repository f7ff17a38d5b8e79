-- The pieces of a row, as C is given them.
use Rattle.std.specs.Prelude.{ℕ, ◌≡◌, ◌++◌, List, length, map, take, drop, Option, Some, None}
use Rattle.row_pieces.specs.declared.row_piece.RowPiece.{RowPiece}
use Rattle.row_pieces.specs.declared.row_piece.RowPieceKind.{RowPieceKind}
use Rattle.row_pieces.specs.declared.row_piece.RowPieceKind.TheVariants as kinds
use Rattle.row_pieces.specs.Pieces.{text_of}
use Rattle.display_session.specs.declared.lent_pieces.LentPiece.{LentPiece}
use Rattle.display_session.specs.LentPieces.{lent_piece}
use Rattle.display_ffi.specs.declared.pieces.Piece.{Piece}
use Rattle.display_ffi.specs.declared.pieces.TheConstants.{BLOCK, INDENT, INLAY, PLACEHOLDER, TAB, TEXT}

-- a kind of pieces as a number
abbrev pub number_of : RowPieceKind → ℕ
number_of kinds.Text = TEXT
number_of kinds.Tab = TAB
number_of (kinds.Inlay id) = INLAY
number_of kinds.Placeholder = PLACEHOLDER
number_of (kinds.Block id) = BLOCK
number_of kinds.Indent = INDENT

-- the id of the inlay or the block, else 0
abbrev pub id_of : RowPieceKind → ℕ
id_of (kinds.Inlay id) = id
id_of (kinds.Block id) = id
id_of _ = 0

abbrev pub as_given : LentPiece → Piece
as_given p =
    record {
      bytes = p.bytes;
      kind = number_of p.kind;
      id = id_of p.kind;
      cells = p.cells;
      start = p.start;
      end = p.end;
    }

-- room that has as many of these as fit, and else what it had
abbrev pub filled : {X : Type 0} → List X → List X → List X
filled items room = take (length room) items ++ drop (length items) room

-- a row's pieces are given: their texts as the answer, how many there are, and as many of them as there is room for
abbrev pub AreGiven : Option (List RowPiece) → (answer : List ℕ) (count : ℕ) (room given : List Piece) → Type 0
AreGiven None answer count room given = ⊥
AreGiven (Some pieces) answer count room given =
    (answer ≡ text_of pieces)
    × (count ≡ length pieces)
    × (given ≡ filled (map as_given (map lent_piece pieces)) room)
