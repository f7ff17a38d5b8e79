-- What walks over the offsets that are shown at a spot find.
use Rattle.std.specs.Prelude.{ℕ, ◌≡◌, ◌≤◌, true, Option, Some, None, max, min}
use Rattle.cell_units.specs.declared.place.Bias.{Bias}
use Rattle.cell_units.specs.declared.place.Spot.{Spot}
use Rattle.cell_units.specs.Record.{Record}
use Rattle.cell_units.specs.Text.{is_boundary}
use Rattle.plain_rows.specs.Spots.{is_open, show}

-- the offset has an open position of that bias that is shown at the spot
pub record IsOffsetAt (r : Record) (bias : Bias) (s : Spot) (o : ℕ) : Type 0 where
  pub boundary : is_boundary r.text o ≡ true
  pub opened : is_open r o bias ≡ true
  pub is : show r o bias ≡ s

-- the least such offset, or none
abbrev pub IsFirstOffset : Record → Bias → Spot → Option ℕ → Type 0
IsFirstOffset r bias s None = (o : ℕ) → IsOffsetAt r bias s o → ⊥
IsFirstOffset r bias s (Some f) = IsOffsetAt r bias s f × ((o : ℕ) → IsOffsetAt r bias s o → f ≤ o)

-- the greatest such offset, or none
abbrev pub IsLastOffset : Record → Bias → Spot → Option ℕ → Type 0
IsLastOffset r bias s None = (o : ℕ) → IsOffsetAt r bias s o → ⊥
IsLastOffset r bias s (Some l) = IsOffsetAt r bias s l × ((o : ℕ) → IsOffsetAt r bias s o → o ≤ l)

abbrev pub lesser : Option ℕ → Option ℕ → Option ℕ
lesser None other = other
lesser (Some one) None = Some one
lesser (Some one) (Some other) = Some (min one other)

abbrev pub greater : Option ℕ → Option ℕ → Option ℕ
greater None other = other
greater (Some one) None = Some one
greater (Some one) (Some other) = Some (max one other)
