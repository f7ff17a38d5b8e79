-- The rows that an operation replaces: those of the lines that it touches, or a block's own.
use Rattle.std.specs.Prelude.{ℕ, ◌≡◌, ◌+◌, ◌==◌, not, if◌then◌else◌, List, [], ◌∷◌, count_by, filter, find, flat_map, length, map, slice_range, Option, Some, None}
use Rattle.std.specs.List.{before_first, list_any, prefix_len}
use Rattle.cell_units.specs.declared.place.Side.{Side}
use Rattle.cell_units.specs.declared.place.Side.TheVariants.{Above, Below}
use Rattle.cell_units.specs.Operation.{AddBlock, Operation, RemoveBlock, block_at_row, operated}
use Rattle.cell_units.specs.Record.{Block, Record}
use Rattle.plain_rows.specs.Rows.{block_kind, line_of_block}
use Rattle.plain_rows.specs.Spots.{mark_at, rows_before}
use Rattle.display_sheet.specs.LineStep.{flags_after, flags_before, line_step}
use Rattle.map_sheet.specs.Listed.{side_blocks}
use Rattle.row_pieces.specs.declared.row_change.RowChange.{RowChange}
use Rattle.row_pieces.specs.declared.row_piece.RowPiece.{RowPiece}
use Rattle.row_pieces.specs.Changed.{IsTrue, RowLook, change, look_of, looks, looks_by_line, no_change, rows_of_lines, rows_to}
use Rattle.row_pieces.specs.Laws.{pieces_at}
use Rattle.row_pieces.specs.Operated.{IsChangeOf}
use Rattle.row_pieces.specs.Pieces.{block_piece, pieces_by_row}

-- ---- the rows of lines

-- the lines that an operation touches make place for those that it touches after it
abbrev pub lines_replaced : Operation → Record → RowChange
lines_replaced operation r =
    let before = flags_before operation r in
    let first = prefix_len not before in
    let count = count_by (λ t. t) (flags_after operation r (operated operation r)) in
    if list_any (λ t. t) before then change first (first + count_by (λ t. t) before) count else no_change

-- all rows of these lines, with those of the blocks at them
abbrev pub rows_touched : Operation → Record → RowChange
rows_touched operation r =
    rows_of_lines (lines_replaced operation r) (looks_by_line r) (looks_by_line (line_step operation r))

-- ---- the rows of a block

-- how many rows some blocks have
abbrev pub rows_in : List Block → ℕ
rows_in blocks = length (flat_map (λ b. b.lines) blocks)

-- those of some blocks that are at a line
abbrev pub at_line : Record → ℕ → List Block → List Block
at_line r line blocks = filter (λ b. line_of_block r b == line) blocks

-- of each text row of a line its pieces
abbrev pub line_pieces : Record → ℕ → List (List RowPiece)
line_pieces r line = pieces_by_row (pieces_at r line) r.tab (mark_at r line).width

-- the row at which the blocks on a side of a line begin
abbrev pub side_start : Record → Side → ℕ → ℕ
side_start r Above line = rows_to line (looks_by_line r)
side_start r Below line = rows_before r line + length (line_pieces r line)

-- the first row of a block: before it are the rows of those blocks on its side of its line that come before it
abbrev pub first_row_of : Record → Block → ℕ
first_row_of r b =
    let line = line_of_block r b in
    let before = before_first (λ c. c.id == b.id) (side_blocks r b.side) in
    side_start r b.side line + rows_in (at_line r line before)

-- where a block is removed its rows go
abbrev pub rows_of_old : Record → Option Block → RowChange
rows_of_old r None = no_change
rows_of_old r (Some b) = change (first_row_of r b) (first_row_of r b + length b.lines) 0

-- ---- the rows of an operation

-- the rows that an operation replaces in the record that it finds
abbrev pub rows_replaced : Operation → Record → RowChange
rows_replaced (AddBlock row id side lines) r =
    let from = first_row_of (line_step (AddBlock row id side lines) r) (block_at_row r.text row id side lines) in
    change from from (length lines)
rows_replaced (RemoveBlock id) r = rows_of_old r (find (λ b. b.id == id) r.blocks)
rows_replaced operation r = rows_touched operation r

-- ---- what that means

-- what a host sees of the rows of one block
abbrev pub looks_of_block : ℕ → Block → List RowLook
looks_of_block tab b = map (λ line. (block_kind, look_of (block_piece tab b line) ∷ [])) b.lines

-- the block's own rows come where none goes, and all others stay
pub record BringsBlock (b : Block) (r s : Record) (rows : RowChange) : Type 0 where
  pub none_goes : rows.to ≡ rows.from
  pub own : slice_range (looks s) rows.from (rows.from + rows.count) ≡ looks_of_block s.tab b
  pub others : IsTrue rows (looks r) (looks s)

-- the block's own rows go and none comes, and all others stay
pub record TakesBlock (b : Block) (r s : Record) (rows : RowChange) : Type 0 where
  pub none_comes : rows.count ≡ 0
  pub own : slice_range (looks r) rows.from rows.to ≡ looks_of_block r.tab b
  pub others : IsTrue rows (looks r) (looks s)

-- those of the block, if there is one
abbrev pub TakesIfAny : Option Block → Record → Record → RowChange → Type 0
TakesIfAny None r s rows = rows ≡ no_change
TakesIfAny (Some b) r s rows = TakesBlock b r s rows

-- of an operation on a block they are the block's own rows; of any other they are all rows of the lines that it touches,
-- with those of the blocks at them
abbrev pub AreRowsReplaced : Operation → Record → RowChange → Type 0
AreRowsReplaced (AddBlock row id side lines) r rows =
    BringsBlock (block_at_row r.text row id side lines) r (line_step (AddBlock row id side lines) r) rows
AreRowsReplaced (RemoveBlock id) r rows =
    TakesIfAny (find (λ b. b.id == id) r.blocks) r (line_step (RemoveBlock id) r) rows
AreRowsReplaced operation r rows = IsChangeOf operation r rows
