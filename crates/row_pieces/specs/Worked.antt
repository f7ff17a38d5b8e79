-- Pieces that are known, for worked rows.
use Rattle.std.specs.Prelude.{ℕ, ◌+◌, List, length, replicate}
use Rattle.cell_units.specs.Inlaid.{placeholder}
use Rattle.row_pieces.specs.declared.row_piece.RowPiece.{RowPiece}
use Rattle.row_pieces.specs.declared.row_piece.RowPieceKind.TheVariants.{Block, Inlay, Placeholder, Tab, Text}

-- text of the buffer of so many cells
abbrev pub wide_piece : List ℕ → ℕ → ℕ → RowPiece
wide_piece text cells start =
    record { kind = Text; text = text; cells = cells; start = start; end = start + length text }

-- printable ASCII, one cell each, of the buffer
abbrev pub text_piece : List ℕ → ℕ → RowPiece
text_piece text start =
    wide_piece text (length text) start

abbrev pub tab_piece : ℕ → ℕ → RowPiece
tab_piece cells start =
    record { kind = Tab; text = replicate cells 32; cells = cells; start = start; end = start + 1 }

abbrev pub inlay_piece : ℕ → List ℕ → ℕ → RowPiece
inlay_piece id text offset =
    record { kind = Inlay id; text = text; cells = length text; start = offset; end = offset }

abbrev pub fold_piece : ℕ → ℕ → RowPiece
fold_piece start end =
    record { kind = Placeholder; text = placeholder; cells = 1; start = start; end = end }

abbrev pub block_piece_of : ℕ → List ℕ → ℕ → RowPiece
block_piece_of id text offset =
    record { kind = Block id; text = text; cells = length text; start = offset; end = offset }
