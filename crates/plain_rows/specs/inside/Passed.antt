-- What of the parts is before a position that is not strictly inside a joined fold.
use Rattle.std.specs.Prelude.{ℕ, ◌≡◌, ◌-◌, ◌≤◌, ◌<◌, ◌==◌, ◌&&◌, ◌||◌, nat_lt, Option, Some, None, Bool, true, false, if◌then◌else◌, length, min}
use Rattle.cell_units.specs.declared.place.Bias.{Bias}
use Rattle.cell_units.specs.declared.place.Bias.TheVariants.{Left, Right}
use Rattle.cell_units.specs.Inlaid.{Byte, Hidden, InlayByte, Token}
use Rattle.cell_units.specs.Folded.{folded_to, inside}
use Rattle.cell_units.specs.Layers.{Source}
use Rattle.plain_rows.specs.declared.folded_lines.Joined.{Joined}
use Rattle.plain_rows.specs.declared.folded_lines.Part.{Part}
use Rattle.plain_rows.specs.declared.folded_lines.Part.TheVariants.{Buffer, Feed, Inlay, InlayFeed, Placeholder}
use Rattle.plain_rows.specs.inside.Laying.{IsJoinedFold}

abbrev pub is_right : Bias → Bool
is_right Left = false
is_right Right = true

-- an inlay at an offset is before the offset's right position
abbrev pub inlay_passed : ℕ → Bias → ℕ → Bool
inlay_passed o bias at = nat_lt at o || ((at == o) && is_right bias)

-- the token is before the position
abbrev pub token_passed : ℕ → Bias → Token → Bool
token_passed o bias (Byte at b) = nat_lt at o
token_passed o bias (InlayByte at id b) = inlay_passed o bias at
token_passed o bias (Hidden at) = nat_lt at o

-- the part begins before the position
abbrev pub part_passed : ℕ → Bias → Part → Bool
part_passed o bias (Buffer start end) = nat_lt start o
part_passed o bias (Inlay number at start end) = inlay_passed o bias at
part_passed o bias (Placeholder start end) = nat_lt start o
part_passed o bias (Feed at) = nat_lt at o
part_passed o bias (InlayFeed number at) = inlay_passed o bias at

-- how many bytes a part shows
abbrev pub part_bytes : Part → ℕ
part_bytes (Buffer start end) = end - start
part_bytes (Inlay number at start end) = end - start
part_bytes (Placeholder start end) = 3
part_bytes (Feed at) = 1
part_bytes (InlayFeed number at) = 1

-- how many of them are before the position
abbrev pub passed_bytes : ℕ → Bias → Part → ℕ
passed_bytes o bias (Buffer start end) = min o end - start
passed_bytes o bias (Inlay number at start end) = if inlay_passed o bias at then end - start else 0
passed_bytes o bias (Placeholder start end) = if nat_lt start o then 3 else 0
passed_bytes o bias (Feed at) = if nat_lt at o then 1 else 0
passed_bytes o bias (InlayFeed number at) = if inlay_passed o bias at then 1 else 0

-- two positions are at one place, and the second is not strictly inside a joined fold
pub record IsSamePlace (source : Source) (o : ℕ) (bias : Bias) (p : ℕ) (other : Bias) : Type 0 where
  pub same :
      folded_to source.text source.inlays source.folds o bias ≡ folded_to source.text source.inlays source.folds p other
  pub outside : inside source.folds p ≡ false
  pub within : p ≤ length source.text

-- the joined fold that an offset is strictly inside, or none where it is inside none
abbrev pub IsAround : Source → ℕ → Option Joined → Type 0
IsAround source o None = inside source.folds o ≡ false
IsAround source o (Some j) = IsJoinedFold source j × (j.start < o) × (o < j.end) × (inside source.folds j.end ≡ false)
