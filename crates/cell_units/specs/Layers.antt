-- What a layer shows. A layer is seen as its source: a text, the inlays in it and the folds over it, as a record has
-- them. All else follows from these: its lines, its text and the places of offsets are those of the folded text.
use Rattle.std.specs.Prelude.{ℕ, ◌≡◌, ◌-◌, ◌≤◌, false, List, [], length, flat_map, slice_index_or, Option, Some, None}
use Rattle.cell_units.specs.declared.place.Bias.{Bias}
use Rattle.cell_units.specs.declared.place.Bias.TheVariants.{Left, Right}
use Rattle.cell_units.specs.declared.place.Point.{Point}
use Rattle.cell_units.specs.declared.piece.Piece.{Piece}
use Rattle.cell_units.specs.Text.{IsBoundary, row_of, row_start}
use Rattle.cell_units.specs.Record.{Inlay, Fold}
use Rattle.cell_units.specs.Inlaid.{Token, bytes_of}
use Rattle.cell_units.specs.Folded.{inside, display_lines, folded_to, folded_place, span_start, span_end}
use Rattle.cell_units.specs.Pieces.{folded_lines}

pub record Source : Type 0 where
  pub text : List ℕ
  pub inlays : List Inlay
  pub folds : List Fold

-- a text by itself, without inlays and folds
abbrev pub plain_source : List ℕ → Source
plain_source text = record { text = text; inlays = []; folds = [] }

-- a text with inlays
abbrev pub inlay_source : List ℕ → List Inlay → Source
inlay_source text inlays = record { text = text; inlays = inlays; folds = [] }

-- the same without its folds: the layer that the folds are over
abbrev pub unfolded : Source → Source
unfolded source = inlay_source source.text source.inlays

-- ---- lines and the text

-- the display lines, each a list of pieces
abbrev pub shown_lines : Source → List (List Piece)
shown_lines source = folded_lines source.text source.inlays source.folds

-- the text of a layer: all that it shows up to the text's end and the inlays there
abbrev pub shown_text : Source → List ℕ
shown_text source = flat_map bytes_of (folded_to source.text source.inlays source.folds (length source.text) Right)

-- a line with its break
abbrev pub line_tokens : Source → ℕ → List Token
line_tokens source line = slice_index_or (display_lines source.text source.inlays source.folds) line []

-- the first and the last buffer row of a line
abbrev pub span_of : Source → ℕ → ℕ × ℕ
span_of source line = (span_start source.text (line_tokens source line), span_end source.text (line_tokens source line))

-- ---- places

-- the place of an offset: how many bytes of the layer's text are before it
abbrev pub place_of : Source → ℕ → Bias → ℕ
place_of source o bias = folded_place source.text source.inlays source.folds o bias

-- the row of a place in a text, and its column in bytes
abbrev pub point_of : List ℕ → ℕ → Point
point_of text place = record { row = row_of text place; column = place - row_start text place }

-- ---- and back

-- a boundary that isn't strictly inside a joined fold
abbrev pub IsOpen : Source → ℕ → Type 0
IsOpen source o = IsBoundary source.text o × (inside source.folds o ≡ false)

-- one of the two places of such a boundary
abbrev pub HasPlace : Source → ℕ → ℕ → Type 0
HasPlace source place o = IsOpen source o × (bias : Bias) × (place_of source o bias ≡ place)

abbrev pub IsGreatest : (ℕ → Type 0) → ℕ → Type 0
IsGreatest Fits o = Fits o × ((p : ℕ) → Fits p → p ≤ o)

abbrev pub IsLeast : (ℕ → Type 0) → ℕ → Type 0
IsLeast Fits o = Fits o × ((p : ℕ) → Fits p → o ≤ p)

-- the least offset (Left) or the greatest (Right) with this place, or none where there is none
abbrev pub IsBack : Source → ℕ → Bias → Option ℕ → Type 0
IsBack source place bias None = (o : ℕ) → ¬ HasPlace source place o
IsBack source place Left (Some o) = IsLeast (HasPlace source place) o
IsBack source place Right (Some o) = IsGreatest (HasPlace source place) o
