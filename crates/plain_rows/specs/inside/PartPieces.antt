-- The piece that a part is.
use Rattle.std.specs.Prelude.{ℕ, ◌≡◌, ◌+◌, ◌^◌, ◌<◌, zero, suc, true, if◌then◌else◌, List, [], ◌∷◌, slice_range, sum_by}
use Rattle.cell_units.specs.declared.piece.Piece.{Piece}
use Rattle.cell_units.specs.declared.piece.PieceKind.TheVariants as kinds
use Rattle.cell_units.specs.Inlaid.{placeholder}
use Rattle.cell_units.specs.Layers.{Source}
use Rattle.plain_rows.specs.declared.folded_lines.LineEnd.{LineEnd}
use Rattle.plain_rows.specs.declared.folded_lines.Part.{Part}
use Rattle.plain_rows.specs.declared.folded_lines.Part.TheVariants.{Buffer, Feed, Inlay, InlayFeed, Placeholder}
use Rattle.plain_rows.specs.FoldedLines.{before_all, inlay_at, is_end, last_part}
use Rattle.plain_rows.specs.inside.Passed.{part_bytes}

-- a line without its end
abbrev pub before_end : List Part → List Part
before_end [] = []
before_end (p ∷ []) = []
before_end (p ∷ o ∷ os) = p ∷ before_end (o ∷ os)

-- an end is no piece
abbrev pub piece_in : Source → Part → Piece
piece_in source (Buffer start end) =
    record { kind = kinds.Buffer; text = slice_range source.text start end; start = start; end = end }
piece_in source (Inlay number offset start end) =
    let inlay = inlay_at source number in
    record { kind = kinds.Inlay inlay.id; text = slice_range inlay.text start end; start = offset; end = offset }
piece_in source (Placeholder start end) =
    record { kind = kinds.Placeholder; text = placeholder; start = start; end = end }
piece_in source (Feed offset) = record { kind = kinds.Buffer; text = []; start = offset; end = offset }
piece_in source (InlayFeed number offset) =
    record { kind = kinds.Inlay (inlay_at source number).id; text = []; start = offset; end = offset }

-- the ends of the lines of parts of which n are before the first
abbrev pub ends_from : ℕ → List Part → List LineEnd
ends_from n [] = []
ends_from n (p ∷ ps) =
    if is_end p then (record { parts = n + 1; feed = p } ∷ ends_from (n + 1) ps) else ends_from (n + 1) ps

-- how many parts are before the line of this number
abbrev pub line_from : ℕ → List LineEnd → ℕ → ℕ
line_from n ends zero = n
line_from n [] (suc k) = n
line_from n (e ∷ es) (suc k) = line_from e.parts es k

-- the ends are those of the parts, which end with one, and all bytes that they show are fewer than 2 ^ 32
pub record IsLaidOut (parts : List Part) (ends : List LineEnd) : Type 0 where
  pub ends_are : ends ≡ ends_from 0 parts
  pub closed : is_end (last_part before_all parts) ≡ true
  pub size : sum_by part_bytes parts < 2 ^ 32
