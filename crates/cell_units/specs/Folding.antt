-- What a token becomes under folds, and among inlays.
use Rattle.std.specs.Prelude.{ℕ, ◌+◌, ◌-◌, ◌==◌, nat_le, if◌then◌else◌, List, [], ◌∷◌, ◌++◌, length, take, drop}
use Rattle.cell_units.specs.declared.piece.Piece.{Piece}
use Rattle.cell_units.specs.declared.piece.PieceKind.{PieceKind}
use Rattle.cell_units.specs.declared.piece.PieceKind.TheVariants.{Buffer, Inlay, Placeholder}
use Rattle.cell_units.specs.Record as records
use Rattle.cell_units.specs.Inlaid.{Token, Byte, InlayByte, Hidden, offset_of, inlays_at}
use Rattle.cell_units.specs.Folded.{inside, covered}

-- nothing strictly inside a joined fold; the placeholder in the place of the byte at which one starts; else itself
abbrev pub folded_token : List records.Fold → Token → List Token
folded_token folds (Byte o b) = if inside folds o then [] else ((if covered folds o then Hidden o else Byte o b) ∷ [])
folded_token folds (InlayByte o id b) = if inside folds o then [] else InlayByte o id b ∷ []
folded_token folds (Hidden o) = if inside folds o then [] else Hidden o ∷ []

-- the inlays at its offset, and then itself
abbrev pub inlaid_token : List records.Inlay → Token → List Token
inlaid_token inlays t = inlays_at inlays (offset_of t) ++ t ∷ []

-- ---- pieces cut in two

-- the offset so many bytes into a piece that starts at an offset: only the buffer's bytes have offsets of their own
abbrev pub offset_in : PieceKind → ℕ → ℕ → ℕ
offset_in Buffer start n = start + n
offset_in (Inlay id) start n = start
offset_in Placeholder start n = start

-- a piece up to its n-th byte, and from there on
abbrev pub piece_front : ℕ → Piece → Piece
piece_front n p = record { kind = p.kind; text = take n p.text; start = p.start; end = offset_in p.kind p.start n }

abbrev pub piece_rest : ℕ → Piece → Piece
piece_rest n p = record { kind = p.kind; text = drop n p.text; start = offset_in p.kind p.start n; end = p.end }

-- the pieces of a line up to its n-th byte, and from there on. A piece that the cut is inside is cut in two
abbrev pub front_pieces : ℕ → List Piece → List Piece
front_pieces n [] = []
front_pieces n (p ∷ ps) =
    if nat_le (length p.text) n
    then p ∷ front_pieces (n - length p.text) ps
    else (if n == 0 then [] else piece_front n p ∷ [])

abbrev pub rest_pieces : ℕ → List Piece → List Piece
rest_pieces n [] = []
rest_pieces n (p ∷ ps) =
    if nat_le (length p.text) n
    then rest_pieces (n - length p.text) ps
    else (if n == 0 then p ∷ ps else piece_rest n p ∷ ps)
