-- The pieces of each row: what lies in its cells, and what it comes from.
use Rattle.std.specs.Prelude.{ℕ, ◌+◌, ◌==◌, ◌&&◌, Bool, true, false, if◌then◌else◌, List, [], ◌∷◌, ◌++◌, length, map, filter, flat_map, take, drop, replicate, slice_range, sum_by, zip}
use Rattle.std.specs.List.{enumerate_from}
use Rattle.unicode_segmentation.specs.Grapheme.{graphemes}
use Rattle.cell_units.specs.declared.piece.Piece.{Piece}
use Rattle.cell_units.specs.declared.piece.PieceKind.{PieceKind}
use Rattle.cell_units.specs.declared.piece.PieceKind.TheVariants as kinds
use Rattle.cell_units.specs.declared.place.Side.{Side}
use Rattle.cell_units.specs.declared.place.Side.TheVariants.{Above, Below}
use Rattle.cell_units.specs.Record as records
use Rattle.cell_units.specs.Record.{Record}
use Rattle.cell_units.specs.Pieces.{folded_lines}
use Rattle.cell_line.specs.declared.element.Element.{Element}
use Rattle.cell_line.specs.Elements.{elements_of, total_cells}
use Rattle.cell_line.specs.RowTexts.{shown_element}
use Rattle.cell_line.specs.Wrapping.{cuts_of, indent_of}
use Rattle.plain_rows.specs.Rows.{is_on, line_of_block}
use Rattle.row_pieces.specs.declared.row_piece.RowPiece.{RowPiece}
use Rattle.row_pieces.specs.declared.row_piece.RowPieceKind.{RowPieceKind}
use Rattle.row_pieces.specs.declared.row_piece.RowPieceKind.TheVariants.{Block, Indent, Inlay, Placeholder, Tab, Text}

-- the text of some pieces, and their cells
abbrev pub text_of : List RowPiece → List ℕ
text_of pieces = flat_map (λ p. p.text) pieces

abbrev pub cells_in : List RowPiece → ℕ
cells_in pieces = sum_by (λ p. p.cells) pieces

-- ---- the elements of a line, each by itself

-- an element is of the kind of the line's piece that it is in. A tab is a kind of its own in the buffer alone
abbrev pub kind_in : PieceKind → Element → RowPieceKind
kind_in kinds.Buffer e = if e.tab then Tab else Text
kind_in (kinds.Inlay id) e = Inlay id
kind_in kinds.Placeholder e = Placeholder

-- the offset before an element of a line's piece, which so many bytes of the piece precede, and the offset after one
-- that ends with so many. Bytes of the buffer count on; in other pieces the offsets are the piece's own
abbrev pub start_at : PieceKind → Piece → ℕ → ℕ
start_at kinds.Buffer p bytes = p.start + bytes
start_at _ p bytes = p.start

abbrev pub end_at : PieceKind → Piece → ℕ → ℕ
end_at kinds.Buffer p bytes = p.start + bytes
end_at _ p bytes = p.end

-- an element of a line's piece by itself
abbrev pub bit : Piece → ℕ → Element → RowPiece
bit p before e =
    record {
      kind = kind_in p.kind e;
      text = shown_element e;
      cells = e.cells;
      start = start_at p.kind p before;
      end = end_at p.kind p (before + length e.text);
    }

-- elements that lie one after another in a line's piece
abbrev pub bits_in : Piece → ℕ → List Element → List RowPiece
bits_in p before [] = []
bits_in p before (e ∷ es) = bit p before e ∷ bits_in p (before + length e.text) es

-- how many elements are in a line's piece
abbrev pub count_in : Piece → ℕ
count_in p = length (graphemes true p.text)

-- each element of a line by itself
abbrev pub bits : List Piece → List Element → List RowPiece
bits [] es = []
bits (p ∷ ps) es = bits_in p 0 (take (count_in p) es) ++ bits ps (drop (count_in p) es)

-- ---- joining

-- neighbours are of one piece where both are text of the buffer, or both of one inlay
abbrev pub is_one : RowPieceKind → RowPieceKind → Bool
is_one Text Text = true
is_one (Inlay id) (Inlay other) = id == other
is_one _ _ = false

-- one piece that has both
abbrev pub merged : RowPiece → RowPiece → RowPiece
merged p q =
    record {
      kind = p.kind;
      text = p.text ++ q.text;
      cells = p.cells + q.cells;
      start = p.start;
      end = q.end;
    }

-- a piece before others: part of the first of them, or one of its own
abbrev pub piece_before : RowPiece → List RowPiece → List RowPiece
piece_before p [] = p ∷ []
piece_before p (q ∷ qs) = if is_one p.kind q.kind then merged p q ∷ qs else (p ∷ q ∷ qs)

-- neighbours of one piece are joined
abbrev pub joined : List RowPiece → List RowPiece
joined [] = []
joined (p ∷ ps) = piece_before p (joined ps)

-- ---- the pieces of a line's rows

-- a list from a start on, parted at the cuts
abbrev pub parts : {X : Type 0} → List X → ℕ → List ℕ → List (List X)
parts xs start [] = drop start xs ∷ []
parts xs start (cut ∷ cuts) = slice_range xs start cut ∷ parts xs cut cuts

-- the offset at which some pieces begin
abbrev pub start_of : List RowPiece → ℕ
start_of [] = 0
start_of (p ∷ ps) = p.start

-- so many spaces at an offset
abbrev pub indent_piece : ℕ → ℕ → RowPiece
indent_piece cells offset =
    record { kind = Indent; text = replicate cells 32; cells = cells; start = offset; end = offset }

-- an indent covers no bytes: its offsets are the one at which its row begins
abbrev pub indent_before : ℕ → List RowPiece → List RowPiece
indent_before cells pieces =
    if cells == 0 then pieces else (indent_piece cells (start_of pieces) ∷ pieces)

-- the first part is a line's first row, and the others go on
abbrev pub head_and_later : ℕ → List (List RowPiece) → List (List RowPiece)
head_and_later indent [] = []
head_and_later indent (part ∷ more) =
    joined part ∷ map (λ later. indent_before indent (joined later)) more

-- of each row of a line that is wrapped at the width its pieces
abbrev pub pieces_by_row : List Piece → ℕ → ℕ → List (List RowPiece)
pieces_by_row pieces tab width =
    let es = elements_of pieces tab in
    head_and_later (indent_of es width) (parts (bits pieces es) 0 (cuts_of es width))

-- ---- the pieces of all rows

-- a text as a display line of its own
abbrev pub alone : List ℕ → Piece
alone text = record { kind = kinds.Buffer; text = text; start = 0; end = 0 }

-- a line of a block is one piece, as it was given. Its cells are those that it takes as a display line of its own
abbrev pub block_piece : ℕ → records.Block → List ℕ → RowPiece
block_piece tab b line =
    record {
      kind = Block b.id;
      text = line;
      cells = total_cells (elements_of (alone line ∷ []) tab);
      start = b.offset;
      end = b.offset;
    }

abbrev pub pieces_of_block : ℕ → records.Block → List (List RowPiece)
pieces_of_block tab b = map (λ line. block_piece tab b line ∷ []) b.lines

-- of each row of a line's blocks on one side its piece
abbrev pub block_pieces_at : Record → Side → ℕ → List (List RowPiece)
block_pieces_at r side line =
    flat_map (pieces_of_block r.tab)
    (filter (λ b. is_on side b.side && (line_of_block r b == line)) r.blocks)

-- of each display line, of each of its text rows its pieces
abbrev pub line_pieces : Record → List (List (List RowPiece))
line_pieces r =
    map (λ l. pieces_by_row l.0 r.tab l.1.width)
    (zip (folded_lines r.text r.inlays r.folds) r.marks)

-- ... and of each of its rows, those of its blocks too
abbrev pub pieces_by_line : Record → List (List (List RowPiece))
pieces_by_line r =
    map (λ n. block_pieces_at r Above n.0 ++ (n.1 ++ block_pieces_at r Below n.0))
    (enumerate_from 0 (line_pieces r))

-- of each row, in order, its pieces
unfoldable pub pieces_in_rows : Record → List (List RowPiece)
pieces_in_rows r = flat_map (λ rows. rows) (pieces_by_line r)
