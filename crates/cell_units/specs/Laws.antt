-- What the definitions mean, in other words.
use Rattle.std.specs.Prelude.{ℕ, ◌≡◌, ◌≤◌, ◌<◌, ◌+◌, [], ◌∷◌, ◌++◌, false, Bool, filter, length, slice_range, ◌≢◌, ◌↔◌, IsTrue, List}
use Rattle.std.specs.List.{All, sum_by}
use Rattle.cell_units.specs.Record.{Fold, Inlay}
use Rattle.cell_units.specs.Inlaid.{Hidden, Token, inlays_at, show_each, shown_inlaid}
use Rattle.cell_units.specs.Layers.{Source}
use Rattle.cell_units.specs.Folded.{covered, inside, shown, span_start, span_end}
use Rattle.cell_units.specs.declared.piece.Piece.{Piece}
use Rattle.cell_units.specs.declared.piece.PieceKind.TheVariants.{Buffer}
use Rattle.cell_units.specs.Text.{IsBoundary, carriage_return, clean, is_boundary, is_feed}

-- there is no carriage return
abbrev pub HasNoReturn : List ℕ → Type 0
HasNoReturn bytes = All (λ b. b ≢ carriage_return) bytes

-- of a UTF-8 text the test finds the boundaries
abbrev pub TellsBoundaries : List ℕ → Type 0
TellsBoundaries text = (o : ℕ) → IsTrue (is_boundary text o) ↔ IsBoundary text o

-- bytes from the start to the end of a joined fold show the inlays at its start and one placeholder
abbrev pub ShowPlaceholder : List Inlay → List Fold → ℕ → ℕ → Type 0
ShowPlaceholder inlays folds s e =
    (bytes : List ℕ) → s + length bytes ≡ e → show_each (shown inlays folds) s bytes ≡ inlays_at inlays s ++ Hidden s ∷ []

-- an offset that no fold hides shows what it shows without folds
abbrev pub ShowsAsInlaid : List Inlay → List Fold → ℕ → Type 0
ShowsAsInlaid inlays folds o = (b : ℕ) → shown inlays folds o b ≡ shown_inlaid inlays o b

-- a piece of the buffer holds the buffer's bytes from its start to its end
abbrev pub IsCopied : List ℕ → Piece → Type 0
IsCopied text piece =
    piece.kind ≡ Buffer → (piece.start ≤ piece.end) × (piece.end ≤ length text) × (piece.text ≡ slice_range text piece.start piece.end)

-- no line feed is in a piece
abbrev pub HasNoFeed : Piece → Type 0
HasNoFeed piece = All (λ b. is_feed b ≡ false) piece.text

-- the row is one of the span
abbrev pub HasRow : ℕ × ℕ → ℕ → Type 0
HasRow span row = (span.0 ≤ row) × (row ≤ span.1)

-- how many bytes the inlays show that pass the test
abbrev pub inlaid_bytes : (Inlay → Bool) → List Inlay → ℕ
inlaid_bytes test inlays = sum_by (λ i. length (clean i.text)) (filter test inlays)

-- the line's first token and its break are in one row of the buffer
abbrev pub IsInOneRow : List ℕ → List Token → Type 0
IsInOneRow text line = span_start text line ≡ span_end text line

-- no fold hides a byte from the one offset up to the other, and none reaches over either
pub record AreUncovered (source : Source) (o p : ℕ) : Type 0 where
  pub order : o ≤ p
  pub within : p ≤ length source.text
  pub start_open : inside source.folds o ≡ false
  pub end_open : inside source.folds p ≡ false
  pub none : (k : ℕ) → o ≤ k → k < p → covered source.folds k ≡ false
