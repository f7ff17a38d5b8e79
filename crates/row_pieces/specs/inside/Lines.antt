-- What the calls on a line's pieces ask of them.
use Rattle.std.specs.Prelude.{ℕ, ◌≡◌, ◌+◌, ◌^◌, ◌<◌, ◌≤◌, ◌==◌, if◌then◌else◌, List, ◌∷◌, ◌++◌, length, map, slice_index_or, slice_range, true}
use Rattle.unicode_segmentation.specs.Grapheme.{graphemes}
use Rattle.cell_units.specs.declared.piece.Piece.{Piece}
use Rattle.cell_units.specs.declared.piece.PieceKind.TheVariants.{Buffer}
use Rattle.cell_line.specs.declared.element.Element.{Element}
use Rattle.row_pieces.specs.declared.row_piece.RowPiece.{RowPiece}
use Rattle.row_pieces.specs.Pieces.{indent_before, joined}

-- the offset that so many bytes of a piece of the buffer precede is a u32
abbrev pub HasOffset : Piece → ℕ → Type 0
HasOffset p bytes = p.kind ≡ Buffer → p.start + bytes < 2 ^ 32

-- the offsets of all its bytes are
abbrev pub HasOffsets : Piece → Type 0
HasOffsets p = HasOffset p (length p.text)

-- the first of the elements are those of the piece
abbrev pub BeginWith : Piece → List Element → Type 0
BeginWith p es = (others : List (List ℕ)) × (map (λ e. e.text) es ≡ graphemes true p.text ++ others)

-- where a row begins and ends, by the cuts of its line
abbrev pub begin_of : List ℕ → ℕ → ℕ
begin_of cuts row = slice_index_or (0 ∷ cuts) row 0

abbrev pub end_of : List RowPiece → List ℕ → ℕ → ℕ
end_of bits cuts row = slice_index_or cuts row (length bits)

-- a row lies within its line
abbrev pub LiesWithin : List RowPiece → List ℕ → ℕ → Type 0
LiesWithin bits cuts row =
    (begin_of cuts row ≤ end_of bits cuts row) × (end_of bits cuts row ≤ length bits)

-- the pieces of the row of this number
abbrev pub row_of : List RowPiece → List ℕ → ℕ → ℕ → List RowPiece
row_of bits cuts indent row =
    indent_before (if row == 0 then 0 else indent)
    (joined (slice_range bits (begin_of cuts row) (end_of bits cuts row)))
