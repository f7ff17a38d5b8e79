-- Where a place of what is shown lies: at a place of the lower layer, or strictly inside a placeholder.
use Rattle.std.specs.Prelude.{ℕ, ◌≡◌, ◌+◌, ◌-◌, ◌<◌, ◌≤◌, ◌^◌, ◌↔◌, nat_lt, min, true, false, List, length, take, slice_get, Option, Some, None}
use Rattle.cell_units.specs.declared.place.Bias.TheVariants.{Right}
use Rattle.cell_units.specs.Layers.{HasPlace, Source, shown_text, unfolded}
use Rattle.cell_units.specs.Text.{row_of}
use Rattle.sum_core.specs.declared.load.NoLoad.{NoLoad}
use Rattle.splice_tree.specs.Splices.{IsFirstUpper, Piece, covered}
use Rattle.fold_map.specs.declared.amount.Amount.{Amount}
use Rattle.fold_map.specs.declared.spots.Spot.{Spot}
use Rattle.fold_map.specs.Amounts.{bytes_of, nothing, together}

-- so much of the bytes after what splices cover is in the gap before a splice, or after all
abbrev pub kept_of : Option (Piece Amount NoLoad) → ℕ → ℕ
kept_of None rest = rest
kept_of (Some p) rest = min rest p.gap.bytes

-- The place lies in the gap before the splice of an index, or after all, or else in the placeholder that the splice
-- shows.
pub record IsSpotAt (ps : List (Piece Amount NoLoad)) (place : ℕ) (spot : Spot) : Type 0 where
  pub index : ℕ
  pub first : IsFirstUpper nothing together bytes_of ps place Right index
  pub before : spot.before ≡ covered nothing together (take index ps)
  pub below : spot.below ≡ spot.before.lower.bytes + kept_of (slice_get ps index) (place - spot.before.upper.bytes)
  pub hidden : spot.is_hidden ≡ nat_lt (kept_of (slice_get ps index) (place - spot.before.upper.bytes)) (place - spot.before.upper.bytes)

-- its place in the lower layer is a u32
abbrev pub SpotFits : List (Piece Amount NoLoad) → ℕ → Type 0
SpotFits ps place = (spot : Spot) → IsSpotAt ps place spot → spot.below < 2 ^ 32

-- how many bytes are shown of so many
abbrev pub shown_bytes : List (Piece Amount NoLoad) → ℕ → ℕ
shown_bytes ps below = let sum = covered nothing together ps in below - sum.lower.bytes + sum.upper.bytes

-- splices cover no more bytes, and what is shown is a u32
pub record CoverBytes (ps : List (Piece Amount NoLoad)) (below : ℕ) : Type 0 where
  pub within : (covered nothing together ps).lower.bytes ≤ below
  pub fits : shown_bytes ps below < 2 ^ 32

-- There are as many line feeds after what splices cover as in the lower layer. The offsets are those of the place
-- there; one that is strictly inside a placeholder has none.
pub record IsSpot (s : Source) (place : ℕ) (spot : Spot) : Type 0 where
  pub within : spot.below ≤ length (shown_text (unfolded s))
  pub order : spot.before.lower.feeds ≤ row_of (shown_text (unfolded s)) spot.below
  pub row : row_of (shown_text s) place + spot.before.lower.feeds ≡ spot.before.upper.feeds + row_of (shown_text (unfolded s)) spot.below
  pub same : spot.is_hidden ≡ false → (o : ℕ) → HasPlace s place o ↔ HasPlace (unfolded s) spot.below o
  pub none : spot.is_hidden ≡ true → (o : ℕ) → ¬ HasPlace s place o
