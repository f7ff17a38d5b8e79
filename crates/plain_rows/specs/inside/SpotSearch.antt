-- What searches among positions find.
use Rattle.std.specs.Prelude.{ℕ, ◌==◌, ◌&&◌, unwrap_or, ◌≡◌, ◌≤◌, ◌<◌, if◌then◌else◌, not, Bool, true, false, List, length, Option, Some, None}
use Rattle.std.specs.List.{Contains}
use Rattle.std.specs.Option.{option_or}
use Rattle.cell_units.specs.declared.place.Bias.{Bias}
use Rattle.cell_units.specs.declared.place.Bias.TheVariants.{Left, Right}
use Rattle.cell_units.specs.declared.place.Spot.{Spot}
use Rattle.cell_units.specs.declared.limits.TheConstants.{LAID_LIMIT}
use Rattle.cell_units.specs.Lawful.{IsLawful}
use Rattle.cell_units.specs.Record.{Record}
use Rattle.cell_units.specs.Text.{is_boundary}
use Rattle.plain_rows.specs.declared.spots.searching.Aim.{Aim}
use Rattle.plain_rows.specs.Spots.{elements_at, mark_at, rows_before, show, spot_le, valid_spots}

-- one spot is before another (Left), or at or before it (Right)
abbrev pub stands_before : Bias → Spot → Spot → Bool
stands_before Left s d = not (spot_le d s)
stands_before Right s d = spot_le s d

-- the record is lawful, and the line is the last whose text rows begin at or before the spot's row, or the first
pub record IsAim (r : Record) (aim : Aim) : Type 0 where
  pub lawful : IsLawful r
  pub short : length r.text ≤ LAID_LIMIT
  pub within : aim.number < length r.marks
  pub elements : aim.line.elements.items ≡ elements_at r aim.number
  pub width : aim.line.width ≡ (mark_at r aim.number).width
  pub begins : 0 < aim.number → rows_before r aim.number ≤ aim.spot.row
  pub ends : (line : ℕ) → aim.number < line → line < length r.marks → aim.spot.row < rows_before r line

-- the boundaries below n are shown on that side of the spot
abbrev pub AreBefore : Record → Bias → Bias → Spot → ℕ → Type 0
AreBefore r bias side d n =
    (o : ℕ) → o < n → is_boundary r.text o ≡ true → stands_before side (show r o bias) d ≡ true

-- no others are
abbrev pub NoneIsBefore : Record → Bias → Bias → Spot → ℕ → Type 0
NoneIsBefore r bias side d n =
    (o : ℕ) → n ≤ o → is_boundary r.text o ≡ true → stands_before side (show r o bias) d ≡ false

-- the boundaries below n, and no others, are shown on that side of the spot
pub record IsPartedAt (r : Record) (bias side : Bias) (d : Spot) (n : ℕ) : Type 0 where
  pub before : AreBefore r bias side d n
  pub behind : NoneIsBefore r bias side d n

abbrev pub IsLastBoundary : List ℕ → ℕ → Option ℕ → Type 0
IsLastBoundary text n None = (o : ℕ) → o < n → is_boundary text o ≡ false
IsLastBoundary text n (Some b) = (b < n) × (is_boundary text b ≡ true) × ((o : ℕ) → b < o → o < n → is_boundary text o ≡ false)

abbrev pub IsFirstBoundary : List ℕ → ℕ → Option ℕ → Type 0
IsFirstBoundary text n None = (o : ℕ) → n ≤ o → is_boundary text o ≡ false
IsFirstBoundary text n (Some b) = (n ≤ b) × (is_boundary text b ≡ true) × ((o : ℕ) → n ≤ o → o < b → is_boundary text o ≡ false)

-- the greatest valid spot at or before d
abbrev pub IsGreatestUpto : Record → Spot → Option Spot → Type 0
IsGreatestUpto r d None = (s : Spot) → Contains (valid_spots r) s → spot_le s d ≡ false
IsGreatestUpto r d (Some g) = Contains (valid_spots r) g × (spot_le g d ≡ true) × ((s : Spot) → Contains (valid_spots r) s → spot_le s d ≡ true → spot_le s g ≡ true)

-- the least valid spot at or after d
abbrev pub IsLeastFrom : Record → Spot → Option Spot → Type 0
IsLeastFrom r d None = (s : Spot) → Contains (valid_spots r) s → spot_le d s ≡ false
IsLeastFrom r d (Some g) = Contains (valid_spots r) g × (spot_le d g ≡ true) × ((s : Spot) → Contains (valid_spots r) s → spot_le d s ≡ true → spot_le g s ≡ true)

-- the greatest spot at or before d that a boundary has with the bias
abbrev pub IsGreatestBy : Record → Bias → Spot → Option Spot → Type 0
IsGreatestBy r bias d None = (o : ℕ) → is_boundary r.text o ≡ true → spot_le (show r o bias) d ≡ false
IsGreatestBy r bias d (Some g) =
    ((o : ℕ) × (is_boundary r.text o ≡ true) × (show r o bias ≡ g)) × (spot_le g d ≡ true)
    × ((o : ℕ) → is_boundary r.text o ≡ true → spot_le (show r o bias) d ≡ true → spot_le (show r o bias) g ≡ true)

-- the least at or after d
abbrev pub IsLeastBy : Record → Bias → Spot → Option Spot → Type 0
IsLeastBy r bias d None = (o : ℕ) → is_boundary r.text o ≡ true → spot_le d (show r o bias) ≡ false
IsLeastBy r bias d (Some g) =
    ((o : ℕ) × (is_boundary r.text o ≡ true) × (show r o bias ≡ g)) × (spot_le d g ≡ true)
    × ((o : ℕ) → is_boundary r.text o ≡ true → spot_le d (show r o bias) ≡ true → spot_le g (show r o bias) ≡ true)

abbrev pub later : Option Spot → Option Spot → Option Spot
later None other = other
later (Some one) None = Some one
later (Some one) (Some other) = Some (if spot_le one other then other else one)

abbrev pub earlier : Option Spot → Option Spot → Option Spot
earlier None other = other
earlier (Some one) None = Some one
earlier (Some one) (Some other) = Some (if spot_le one other then one else other)

-- which of the two Left takes, and which Right: the last of d's row, where d is past it
abbrev pub nearest_left : Spot → Option Spot → Option Spot → Spot
nearest_left d before after = unwrap_or (option_or before after) d

abbrev pub nearest_right : Spot → Option Spot → Option Spot → Spot
nearest_right d (Some before) (Some after) = if (before.row == d.row) && not (after.row == d.row) then before else after
nearest_right d (Some before) None = before
nearest_right d None after = unwrap_or after d
