-- The blocks of one side in order, and the rows of those at a display line.
use Rattle.std.specs.Prelude.{ℕ, ◌≡◌, ◌<◌, ◌≤◌, nat_lt, Bool, true, false, [], ◌∷◌, length, slice_get, slice_index_or, Option, Some, None}
use Rattle.cell_units.specs.declared.place.Side.{Side}
use Rattle.cell_units.specs.Record.{Block, Record}
use Rattle.plain_rows.specs.Rows.{line_of_block}
use Rattle.map_sheet.specs.Listed.{side_blocks}
use Rattle.row_pieces.specs.Pieces.{block_piece, block_pieces_at}

-- there is a block, and its line comes before this one
abbrev pub comes_before : Record → ℕ → Option Block → Bool
comes_before r line None = false
comes_before r line (Some b) = nat_lt (line_of_block r b) line

-- so many blocks of a side come before a line, and no others
pub record AreBefore (r : Record) (side : Side) (line count : ℕ) : Type 0 where
  pub before :
      (k : ℕ) → k < count → comes_before r line (slice_get (side_blocks r side) k) ≡ true
  pub others :
      (k : ℕ) → count ≤ k → comes_before r line (slice_get (side_blocks r side) k) ≡ false

-- of the rows of the blocks on a side of a line the one of this number is this line of the side's block of that number
pub record IsLineOf (r : Record) (side : Side) (line at number k : ℕ) : Type 0 where
  pub block : Block
  pub there : slice_get (side_blocks r side) number ≡ Some block
  pub within : k < length block.lines
  pub pieces_are :
      slice_get (block_pieces_at r side line) at
      ≡ Some (block_piece r.tab block (slice_index_or block.lines k []) ∷ [])

-- ... or there is no such row
abbrev pub IsFound : Record → Side → ℕ → ℕ → Option (ℕ × ℕ) → Type 0
IsFound r side line at None = slice_get (block_pieces_at r side line) at ≡ None
IsFound r side line at (Some (number, k)) = IsLineOf r side line at number k
