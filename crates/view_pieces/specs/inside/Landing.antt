-- Where a row lies: at which display line, and in which part of it.
use Rattle.std.specs.Prelude.{ℕ, ◌≡◌, ◌+◌, ◌<◌, ◌≤◌, List, length, slice_get}
use Rattle.cell_units.specs.Record.{Record}
use Rattle.plain_rows.specs.Rows.{rows_by_line}
use Rattle.plain_rows.specs.Spots.{mark_at}
use Rattle.block_map.specs.Between.{rows_to}
use Rattle.row_pieces.specs.declared.row_piece.RowPiece.{RowPiece}
use Rattle.row_pieces.specs.Laws.{pieces_at}
use Rattle.row_pieces.specs.Pieces.{block_pieces_at, pieces_by_row, pieces_in_rows}
use Rattle.view_pieces.specs.declared.landing.Part.{Part}
use Rattle.view_pieces.specs.declared.landing.Part.TheVariants.{Blocks, Text}
use Rattle.view_pieces.specs.declared.landing.RowPlace.{RowPlace}

-- the row is one of the line, or of a block at it
pub record HoldsRow (r : Record) (row line : ℕ) : Type 0 where
  pub within : line < length r.marks
  pub from : rows_to line (rows_by_line r) ≤ row
  pub to : row < rows_to (line + 1) (rows_by_line r)

-- of each row in a part of a line its pieces
abbrev pub pieces_of_part : Record → ℕ → Part → List (List RowPiece)
pieces_of_part r line Text = pieces_by_row (pieces_at r line) r.tab (mark_at r line).width
pieces_of_part r line (Blocks side) = block_pieces_at r side line

-- the row has the pieces of the one at the place
pub record LandsOn (r : Record) (row : ℕ) (place : RowPlace) : Type 0 where
  pub within : place.line < length r.marks
  pub pieces_are :
      slice_get (pieces_in_rows r) row ≡ slice_get (pieces_of_part r place.line place.part) place.at
