-- What the definitions of spots mean, in other words.
use Rattle.std.specs.Prelude.{◌≡◌, ◌≢◌, false, IsTrue, List}
use Rattle.std.specs.List.{All, Contains}
use Rattle.cell_units.specs.declared.place.Spot.{Spot}
use Rattle.cell_units.specs.Record.{Record}
use Rattle.plain_rows.specs.Spots.{spot_le, valid_spots}

-- the spot is that of some position
abbrev pub IsValidSpot : Record → Spot → Type 0
IsValidSpot r s = Contains (valid_spots r) s

-- the spot is one of these, and at or before each of them
abbrev pub IsLeast : List Spot → Spot → Type 0
IsLeast spots s = Contains spots s × All (λ t. IsTrue (spot_le s t)) spots

-- the spot is one of these, and each of them is at or before it
abbrev pub IsGreatest : List Spot → Spot → Type 0
IsGreatest spots s = Contains spots s × All (λ t. IsTrue (spot_le t s)) spots

-- what Left takes: the greatest at or before d; where there is none, the least
pub data IsNearestBefore (spots : List Spot) (d : Spot) : Spot → Type 0 where
  GreatestBefore : (s : Spot) → Contains spots s → IsTrue (spot_le s d) → ((t : Spot) → Contains spots t → IsTrue (spot_le t d) → IsTrue (spot_le t s)) → IsNearestBefore spots d s
  LeastOfAll : (s : Spot) → IsLeast spots s → ((t : Spot) → Contains spots t → spot_le t d ≡ false) → IsNearestBefore spots d s

-- d is past each spot of its row
abbrev pub IsPastRow : List Spot → Spot → Type 0
IsPastRow spots d = (t : Spot) → Contains spots t → t.row ≡ d.row → spot_le d t ≡ false

-- a spot of its row is at or after d
abbrev pub IsWithinRow : List Spot → Spot → Type 0
IsWithinRow spots d = (t : Spot) × (Contains spots t) × (t.row ≡ d.row) × IsTrue (spot_le d t)

-- what Right takes. Where d is past the spots of its row, it is the last of them; otherwise the least at or after d.
-- Where there is none, it is the greatest
pub data IsNearestAfter (spots : List Spot) (d : Spot) : Spot → Type 0 where
  LastOfRow : (s : Spot) → Contains spots s → s.row ≡ d.row → IsPastRow spots d → ((t : Spot) → Contains spots t → t.row ≡ d.row → IsTrue (spot_le t s)) → IsNearestAfter spots d s
  LeastAfter : (s : Spot) → Contains spots s → IsTrue (spot_le d s) → ((t : Spot) → Contains spots t → IsTrue (spot_le d t) → IsTrue (spot_le s t)) → ((t : Spot) → Contains spots t → t.row ≡ d.row → IsWithinRow spots d) → IsNearestAfter spots d s
  GreatestOfAll : (s : Spot) → IsGreatest spots s → ((t : Spot) → Contains spots t → spot_le d t ≡ false) → ((t : Spot) → Contains spots t → t.row ≢ d.row) → IsNearestAfter spots d s
