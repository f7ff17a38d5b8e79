-- The rows of a record, from scratch: the blocks above each display line, the line's text rows, the blocks below it.
use Rattle.std.specs.Prelude.{ℕ, ◌==◌, ◌&&◌, not, Bool, true, false, if◌then◌else◌, List, [], ◌∷◌, ◌++◌, map, filter, flat_map, zip}
use Rattle.std.specs.List.{enumerate_from}
use Rattle.cell_units.specs.declared.place.Bias.TheVariants.{Left, Right}
use Rattle.cell_units.specs.declared.place.Side.{Side}
use Rattle.cell_units.specs.declared.place.Side.TheVariants.{Above, Below}
use Rattle.cell_units.specs.Text.{row_start, row_end}
use Rattle.cell_units.specs.Record.{Block, Record}
use Rattle.cell_units.specs.Folded.{line_of}
use Rattle.cell_units.specs.Pieces.{folded_lines}
use Rattle.cell_line.specs.declared.element.Element.{Element}
use Rattle.cell_line.specs.Elements.{elements_of}
use Rattle.cell_line.specs.RowTexts.{row_texts_of}

-- the letter that is printed for a row: t for a line's first text row, w for one that goes on, b for a block's
abbrev pub head_kind : ℕ
head_kind = 116

abbrev pub more_kind : ℕ
more_kind = 119

abbrev pub block_kind : ℕ
block_kind = 98

pub record Row : Type 0 where
  pub kind : ℕ
  pub text : List ℕ

abbrev pub head_row : List ℕ → Row
head_row text = record { kind = head_kind; text = text }

abbrev pub more_row : List ℕ → Row
more_row text = record { kind = more_kind; text = text }

-- the first text is the head's, and the others go on
abbrev pub head_and_more : List (List ℕ) → List Row
head_and_more [] = []
head_and_more (text ∷ texts) = head_row text ∷ map more_row texts

-- the text rows of a line that is wrapped at the width
abbrev pub text_rows : List Element → ℕ → List Row
text_rows es width = head_and_more (row_texts_of es width)

-- each line's rows with what is above and below it
abbrev pub with_blocks : (ℕ → List Row) → (ℕ → List Row) → List (List Row) → List (List Row)
with_blocks above below lines = map (λ n. above n.0 ++ (n.1 ++ below n.0)) (enumerate_from 0 lines)

abbrev pub is_above : Side → Bool
is_above Above = true
is_above Below = false

abbrev pub block_rows : Block → List Row
block_rows b = map (λ line. record { kind = block_kind; text = line }) b.lines

-- the display line of a block. One above is at that of its row's start with Left. One below is at that of its row's end
-- with Right, after the inlays there
abbrev pub line_of_block : Record → Block → ℕ
line_of_block r b =
    if is_above b.side then line_of r.text r.inlays r.folds (row_start r.text b.offset) Left
    else line_of r.text r.inlays r.folds (row_end r.text b.offset) Right

-- a block's own side is the given one
abbrev pub is_on : Side → Side → Bool
is_on Above side = is_above side
is_on Below side = not (is_above side)

-- the rows of a line's blocks on one side, by (offset, id)
abbrev pub blocks_at : Record → Side → ℕ → List Row
blocks_at r side line =
    flat_map block_rows (filter (λ b. is_on side b.side && (line_of_block r b == line)) r.blocks)

-- the elements of each display line
abbrev pub line_elements : Record → List (List Element)
line_elements r = map (λ pieces. elements_of pieces r.tab) (folded_lines r.text r.inlays r.folds)

-- the text rows of each display line, cut at the line's own width
abbrev pub line_rows : Record → List (List Row)
line_rows r = map (λ l. text_rows l.0 l.1.width) (zip (line_elements r) r.marks)

-- the rows of each display line
unfoldable pub rows_by_line : Record → List (List Row)
rows_by_line r = with_blocks (blocks_at r Above) (blocks_at r Below) (line_rows r)

-- all rows, in order
unfoldable pub rows_of : Record → List Row
rows_of r = flat_map (λ rows. rows) (rows_by_line r)
