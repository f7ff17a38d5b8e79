-- Runs of elements that are of one piece.
use Rattle.std.specs.Prelude.{ℕ, ◌≡◌, ◌-◌, ◌<◌, ◌≤◌, true, false, List, [], ◌∷◌, length, map, slice_index_or}
use Rattle.row_pieces.specs.declared.row_piece.RowPiece.{RowPiece}
use Rattle.row_pieces.specs.declared.row_piece.RowPieceKind.{RowPieceKind}
use Rattle.row_pieces.specs.declared.row_piece.RowPieceKind.TheVariants.{Indent}
use Rattle.row_pieces.specs.Pieces.{is_one, merged}

-- the kind of the element of this number
abbrev pub kind_of : List RowPiece → ℕ → RowPieceKind
kind_of bits k = slice_index_or (map (λ b. b.kind) bits) k Indent

-- the elements from `start` up to `end` are of one piece, and the one after them isn't
pub record IsRunEnd (bits : List RowPiece) (start end : ℕ) : Type 0 where
  pub some : start < end
  pub within : end ≤ length bits
  pub one : (k : ℕ) → start < k → k < end → is_one (kind_of bits (k - 1)) (kind_of bits k) ≡ true
  pub ends : end < length bits → is_one (kind_of bits (end - 1)) (kind_of bits end) ≡ false

-- one piece of an element and those after it
abbrev pub whole : RowPiece → List RowPiece → RowPiece
whole p [] = p
whole p (q ∷ qs) = merged p (whole q qs)
