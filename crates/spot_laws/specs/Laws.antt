-- What is so of lawful records, in the words of the promises.
use Rattle.std.specs.Prelude.{ℕ, ◌≡◌, ◌<◌, ◌≤◌, IsTrue}
use Rattle.cell_units.specs.declared.place.Bias.{Bias}
use Rattle.cell_units.specs.declared.place.Bias.TheVariants.{Left, Right}
use Rattle.cell_units.specs.declared.place.Spot.{Spot}
use Rattle.cell_units.specs.Text.{IsBoundary}
use Rattle.cell_units.specs.Record.{Record}
use Rattle.plain_rows.specs.Spots.{is_open, show}

-- the offset is a boundary, and a position of it that is open is shown at the spot
abbrev pub IsOpenAt : Record → Spot → ℕ → Type 0
IsOpenAt r s o = (bias : Bias) × IsBoundary r.text o × IsTrue (is_open r o bias) × (show r o bias ≡ s)

-- the offset is one of those with an open position at the spot, and at or before each of them
abbrev pub IsLeastAt : Record → Spot → ℕ → Type 0
IsLeastAt r s o = IsOpenAt r s o × ((p : ℕ) → IsOpenAt r s p → o ≤ p)

-- and at or after each of them
abbrev pub IsGreatestAt : Record → Spot → ℕ → Type 0
IsGreatestAt r s o = IsOpenAt r s o × ((p : ℕ) → IsOpenAt r s p → p ≤ o)

-- one position is before another or is the same: by offset, then Left before Right
abbrev pub IsUpTo : ℕ → Bias → ℕ → Bias → Type 0
IsUpTo o Left p c = o ≤ p
IsUpTo o Right p Left = o < p
IsUpTo o Right p Right = o ≤ p
