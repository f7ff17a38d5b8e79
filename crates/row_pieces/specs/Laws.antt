-- What the definitions mean, in other words.
use Rattle.std.specs.Prelude.{ℕ, ◌≡◌, ◌+◌, ◌≤◌, ◌<◌, ◌==◌, if◌then◌else◌, false, List, [], ◌∷◌, length, map, take, drop, slice_range, slice_index_or, zip}
use Rattle.std.specs.List.{All}
use Rattle.cell_units.specs.declared.piece.Piece.{Piece}
use Rattle.cell_units.specs.declared.piece.PieceKind.{PieceKind}
use Rattle.cell_units.specs.declared.place.Bias.{Bias}
use Rattle.cell_units.specs.declared.place.Side.{Side}
use Rattle.cell_units.specs.Record.{Record}
use Rattle.cell_units.specs.Operation.{AddBlock, Operation, RemoveBlock, block_at_row}
use Rattle.cell_units.specs.Pieces.{folded_lines}
use Rattle.cell_units.specs.Folded.{line_of, place_in_line}
use Rattle.cell_line.specs.declared.element.Element.{Element}
use Rattle.cell_line.specs.Elements.{elements_of}
use Rattle.cell_line.specs.Wrapping.{cuts_of, indent_of}
use Rattle.plain_rows.specs.Rows.{blocks_at, line_of_block}
use Rattle.plain_rows.specs.inside.BuiltRows.{block_at}
use Rattle.plain_rows.specs.Spots.{elements_at, elements_before, mark_at, show, spot_in_line}
use Rattle.row_pieces.specs.declared.row_piece.RowPiece.{RowPiece}
use Rattle.row_pieces.specs.Changed.{Look, RowLook, look_of}
use Rattle.row_pieces.specs.Pieces.{bits, block_pieces_at, cells_in, is_one, joined, pieces_by_row, pieces_in_rows}

-- the elements of a line that lie in the row of this number go from the first of these places up to the second
abbrev pub row_begin : List Element → ℕ → ℕ → ℕ
row_begin es width row = slice_index_or (0 ∷ cuts_of es width) row 0

abbrev pub row_end : List Element → ℕ → ℕ → ℕ
row_end es width row = slice_index_or (cuts_of es width) row (length es)

-- the cells before a row's elements
abbrev pub indent_at : List Element → ℕ → ℕ → ℕ
indent_at es width row = if row == 0 then 0 else indent_of es width

-- the elements of a line between two places, each by itself
abbrev pub bits_between : List Piece → ℕ → ℕ → ℕ → List RowPiece
bits_between pieces tab start end = slice_range (bits pieces (elements_of pieces tab)) start end

-- the elements of a row, each by itself
abbrev pub bits_of_row : List Piece → ℕ → ℕ → ℕ → List RowPiece
bits_of_row pieces tab width row =
    let es = elements_of pieces tab in
    bits_between pieces tab (row_begin es width row) (row_end es width row)

-- where joined pieces are parted, the elements are parted too: so many lie before it
pub record PartsElements (elements before after : List RowPiece) : Type 0 where
  pub place : ℕ
  pub within : place ≤ length elements
  pub front : joined (take place elements) ≡ before
  pub rest : joined (drop place elements) ≡ after

-- no two neighbours are of one piece
abbrev pub AreApart : List RowPiece → Type 0
AreApart [] = Unit {0}
AreApart (p ∷ []) = Unit {0}
AreApart (p ∷ q ∷ qs) = (is_one p.kind q.kind ≡ false) × AreApart (q ∷ qs)

-- some element of the row begins after these pieces of it, at the column that their cells make
pub record BeginsAt (es : List Element) (width row : ℕ) (before : List RowPiece) : Type 0 where
  pub place : ℕ
  pub from : row_begin es width row ≤ place
  pub to : place < row_end es width row
  pub row_is : (spot_in_line es width place).row ≡ row
  pub col_is : (spot_in_line es width place).col ≡ indent_at es width row + cells_in before

-- the pieces of a display line, as a layer gives them
abbrev pub pieces_at : Record → ℕ → List Piece
pieces_at r line = slice_index_or (folded_lines r.text r.inlays r.folds) line []

-- a position that lies before the element of this place of a display line is shown in the line's row of this number:
-- that row has this row's pieces, and the column is the indent with the cells of the row's elements before the place
pub record IsShownAmong (r : Record) (o : ℕ) (bias : Bias) (line place row : ℕ) : Type 0 where
  pub row_within : row ≤ length (cuts_of (elements_at r line) (mark_at r line).width)
  pub from : row_begin (elements_at r line) (mark_at r line).width row ≤ place
  pub to : place ≤ row_end (elements_at r line) (mark_at r line).width row
  pub pieces_are :
      slice_index_or (pieces_in_rows r) (show r o bias).row []
      ≡ slice_index_or (pieces_by_row (pieces_at r line) r.tab (mark_at r line).width) row []
  pub col_is :
      (show r o bias).col
      ≡ indent_at (elements_at r line) (mark_at r line).width row
      + cells_in (joined (bits_between (pieces_at r line) r.tab
      (row_begin (elements_at r line) (mark_at r line).width row) place))

-- of a position the display line, how many of its elements lie before it, and the row
abbrev pub line_at : Record → ℕ → Bias → ℕ
line_at r o bias = line_of r.text r.inlays r.folds o bias

abbrev pub place_at : Record → ℕ → Bias → ℕ
place_at r o bias =
    elements_before (elements_at r (line_at r o bias)) (place_in_line r.text r.inlays r.folds o bias) bias

abbrev pub row_at : Record → ℕ → Bias → ℕ
row_at r o bias =
    let line = line_at r o bias in
    (spot_in_line (elements_at r line) (mark_at r line).width (place_at r o bias)).row

-- the elements of a display line, each by itself
abbrev pub elements_of_line : Record → ℕ → List RowPiece
elements_of_line r line = bits (pieces_at r line) (elements_of (pieces_at r line) r.tab)

-- the elements before a place end at or before an offset, and the others begin at or after it
pub record LieApart (elements : List RowPiece) (place o : ℕ) : Type 0 where
  pub before : All (λ e. e.end ≤ o) (take place elements)
  pub others : All (λ e. o ≤ e.start) (drop place elements)

-- what of a line's pieces doesn't move: their kinds and texts
abbrev pub unplaced : List Piece → List (PieceKind × List ℕ)
unplaced pieces = map (λ p. (p.kind, p.text)) pieces

-- what a host sees of the text rows of a display line
abbrev pub line_looks : Record → ℕ → List (List Look)
line_looks r line =
    map (map look_of) (pieces_by_row (pieces_at r line) r.tab (mark_at r line).width)

-- where `after` lines took the place of `before` others that came after `front`, the text rows of each line above them
-- look the same, and those of each line below them too
pub record KeepsLooks (front before after : ℕ) (r r' : Record) : Type 0 where
  pub above : (line : ℕ) → line < front → line_looks r' line ≡ line_looks r line
  pub below :
      (j : ℕ) → front + before + j < length r.marks →
      line_looks r' (front + after + j) ≡ line_looks r (front + before + j)

-- what a host sees of the rows of the blocks on one side of a display line
abbrev pub block_looks : Record → Side → ℕ → List RowLook
block_looks r side line =
    zip (map (λ row. row.kind) (blocks_at r side line)) (map (map look_of) (block_pieces_at r side line))

-- ... and so do the blocks of these lines
pub record KeepsBlocks (front before after : ℕ) (r r' : Record) : Type 0 where
  pub above :
      (side : Side) (line : ℕ) → line < front → block_looks r' side line ≡ block_looks r side line
  pub below :
      (side : Side) (j : ℕ) → front + before + j < length r.marks →
      block_looks r' side (front + after + j) ≡ block_looks r side (front + before + j)

-- the operation adds and removes no block
abbrev pub LeavesBlocks : Operation → Type 0
LeavesBlocks (AddBlock row id side lines) = ⊥
LeavesBlocks (RemoveBlock id) = ⊥
LeavesBlocks _ = Unit {0}

-- the operation adds a block at this display line, or removes one that is there
abbrev pub IsBlockLine : Operation → Record → ℕ → Type 0
IsBlockLine (AddBlock row id side lines) r line =
    line_of_block r (block_at_row r.text row id side lines) ≡ line
IsBlockLine (RemoveBlock id) r line =
    (k : ℕ) → k < length r.blocks → (block_at r k).id ≡ id → line_of_block r (block_at r k) ≡ line
IsBlockLine _ r line = ⊥
