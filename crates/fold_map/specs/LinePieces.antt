-- The pieces of a line of the lower layer, and parts of them.
use Rattle.std.specs.Prelude.{ℕ, ◌≡◌, ◌+◌, ◌-◌, ◌<◌, ◌≤◌, ◌^◌, nat_lt, if◌then◌else◌, List, flat_map, length, take, drop, slice_get, Some}
use Rattle.std.specs.List.{All}
use Rattle.std.specs.Str.{IsCharBoundary}
use Rattle.cell_units.specs.declared.piece.Piece.{Piece}
use Rattle.cell_units.specs.declared.piece.PieceKind.TheVariants.{Buffer, Placeholder}
use Rattle.cell_units.specs.BufferLines.{line_start}
use Rattle.cell_units.specs.Folding.{offset_in}
use Rattle.cell_units.specs.Inlaid.{placeholder}
use Rattle.cell_units.specs.Layers.{Source, shown_lines, shown_text}
use Rattle.fold_map.specs.declared.pieces.LineBelow.{LineBelow}

-- a line of a layer, with the place at which it starts
pub record IsLineOf (s : Source) (number : ℕ) (line : LineBelow) : Type 0 where
  pub number_is : line.number ≡ number
  pub start : line.start ≡ line_start (shown_text s) number
  pub pieces : slice_get (shown_lines s) number ≡ Some line.pieces.items

-- the bytes of pieces
abbrev pub bytes_in : List Piece → List ℕ
bytes_in ps = flat_map (λ p. p.text) ps

-- so many bytes are characters, where they are some and not all
abbrev pub MayCut : ℕ → List ℕ → Type 0
MayCut n bytes = 0 < n → n < length bytes → IsCharBoundary bytes n

-- a piece is some bytes, and those of the buffer are those of its offsets
pub record IsWhole (p : Piece) : Type 0 where
  pub some : 0 < length p.text
  pub buffer : p.kind ≡ Buffer → p.start + length p.text ≡ p.end

-- a line may be cut at two places, the first before the second
pub record MayCopy (line : LineBelow) (from to : ℕ) : Type 0 where
  pub start : line.start ≤ from
  pub order : from ≤ to
  pub first : MayCut (from - line.start) (bytes_in line.pieces.items)
  pub last : MayCut (to - line.start) (bytes_in line.pieces.items)
  pub each : All IsWhole line.pieces.items
  pub fits : line.start + length (bytes_in line.pieces.items) < 2 ^ 32

-- a piece from one of its bytes to another
abbrev pub cut_piece : ℕ → ℕ → Piece → Piece
cut_piece from to p =
    record {
      kind = p.kind;
      text = take (to - from) (drop from p.text);
      start = offset_in p.kind p.start from;
      end = if nat_lt to (length p.text) then offset_in p.kind p.start to else p.end;
    }

-- the bytes of a piece, from one to another, are characters
pub record MayCutOut (p : Piece) (from to : ℕ) : Type 0 where
  pub order : from < to
  pub within : to ≤ length p.text
  pub first : IsCharBoundary p.text from
  pub last : IsCharBoundary p.text to
  pub whole : IsWhole p

-- the piece of a placeholder
abbrev pub hidden_piece : ℕ → ℕ → Piece
hidden_piece start end = record { kind = Placeholder; text = placeholder; start = start; end = end }
