-- The pieces of a display line.
use Rattle.std.specs.Prelude.{ℕ, ◌≡◌, ◌<◌, ◌==◌, Bool, true, false, if◌then◌else◌, List, [], ◌∷◌, ◌++◌, flat_map, length, map, slice_get, take, Some, None}
use Rattle.std.specs.List.{All, last_or}
use Rattle.cell_units.specs.declared.piece.Piece.{Piece}
use Rattle.cell_units.specs.declared.piece.PieceKind.{PieceKind}
use Rattle.cell_units.specs.declared.piece.PieceKind.TheVariants.{Buffer, Inlay, Placeholder}
use Rattle.cell_units.specs.Record as records
use Rattle.cell_units.specs.Inlaid.{Token, Byte, InlayByte, Hidden, offset_of, bytes_of}
use Rattle.cell_units.specs.Folded.{display_lines}

abbrev pub kind_of : Token → PieceKind
kind_of (Byte o b) = Buffer
kind_of (InlayByte o id b) = Inlay id
kind_of (Hidden o) = Placeholder

-- neighbours are of one piece where both are of the buffer or both of one inlay
abbrev pub is_one_piece : Token → Token → Bool
is_one_piece (Byte o b) (Byte p c) = true
is_one_piece (InlayByte o id b) (InlayByte p id' c) = id == id'
is_one_piece _ _ = false

-- a token, and what comes after it at the offset `end`, before the pieces of the rest. It is part of the first of them,
-- or a piece of its own
abbrev pub piece_before : Bool → Token → ℕ → List Piece → List Piece
piece_before is_one t end [] =
    record { kind = kind_of t; text = bytes_of t; start = offset_of t; end = end } ∷ []
piece_before is_one t end (p ∷ ps) =
    if is_one
    then (record { kind = p.kind; text = bytes_of t ++ p.text; start = offset_of t; end = p.end } ∷ ps)
    else (record { kind = kind_of t; text = bytes_of t; start = offset_of t; end = end } ∷ p ∷ ps)

-- a piece reaches from its first token's offset to that of the token after it; the line's break is no part of one
abbrev pub pieces_of : List Token → List Piece
pieces_of [] = []
pieces_of (t ∷ []) = []
pieces_of (t ∷ u ∷ us) = piece_before (is_one_piece t u) t (offset_of u) (pieces_of (u ∷ us))

-- the folded lines: of each display line its pieces
abbrev pub folded_lines : List ℕ → List records.Inlay → List records.Fold → List (List Piece)
folded_lines text inlays folds = map pieces_of (display_lines text inlays folds)

-- ---- what pieces are, in other words

-- neighbours are related
abbrev pub AreNeighbours : {X : Type 0} → (X → X → Type 0) → List X → Type 0
AreNeighbours Related [] = Unit {0}
AreNeighbours Related (x ∷ []) = Unit {0}
AreNeighbours Related (x ∷ y ∷ ys) = Related x y × AreNeighbours Related (y ∷ ys)

-- tokens of one piece: some, and each two neighbours are
abbrev pub IsRun : List Token → Type 0
IsRun run = (0 < length run) × AreNeighbours (λ t u. is_one_piece t u ≡ true) run

-- the last token of a run and the first of the next aren't of one piece. They aren't both of the buffer, nor both of
-- one inlay
abbrev pub IsSeam : List Token → List Token → Type 0
IsSeam run next = (t u : Token) → last_or None run ≡ Some t → slice_get next 0 ≡ Some u → is_one_piece t u ≡ false

-- the pieces are those of the tokens: these are cut into runs as long as possible, and a piece has its run's kind and
-- bytes
pub record ArePiecesOf (tokens : List Token) (pieces : List Piece) : Type 0 where
  pub runs : List (List Token)
  pub tokens_are : flat_map (λ run. run) runs ≡ tokens
  pub each : All IsRun runs
  pub apart : AreNeighbours IsSeam runs
  pub texts : map (λ p. p.text) pieces ≡ map (flat_map bytes_of) runs
  pub kinds : map (λ p. p.kind ∷ []) pieces ≡ map (λ run. map kind_of (take 1 run)) runs

-- a line without its break
abbrev pub before_break : List Token → List Token
before_break [] = []
before_break (t ∷ []) = []
before_break (t ∷ u ∷ us) = t ∷ before_break (u ∷ us)
