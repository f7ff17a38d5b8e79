-- Rows of versions. A version is seen as its history: an opening text and a journal.
use Rattle.std.specs.Prelude.{◌≡◌, ◌+◌, false, Bool, List, [], ◌∷◌, ◌++◌}
use mathlib.Core.List.{IsPrefix}
use Rattle.display_map.specs.Events.{Event, Published}
use Rattle.display_map.specs.Replay.{versions_of, ends}
use Rattle.display_map.specs.Versions.{Version}

-- the journal of the version begins with that of the earlier one
abbrev pub BeginsWith : Version → Version → Type 0
BeginsWith v earlier = IsPrefix earlier.events v.events

-- its journal ends with its own publishing
abbrev pub IsPublished : Version → Type 0
IsPublished v = (before : List Event) × (last : Bool) × (v.events ≡ before ++ Published last ∷ [])

-- the version may open a row: its number is 0, so the only publishing is its own
pub record IsFirst (v : Version) : Type 0 where
  pub published : IsPublished v
  pub number : versions_of v.events ≡ 1

-- the version w may come right after v
pub record Follows (v w : Version) : Type 0 where
  pub goes_on : ends v.events ≡ false
  pub opening : w.opening ≡ v.opening
  pub begins : BeginsWith w v
  pub published : IsPublished w
  pub number : versions_of w.events ≡ versions_of v.events + 1

-- each of these may come right after the one before it, and the first after v
abbrev pub AreFollowing : Version → List Version → Type 0
AreFollowing v [] = Unit {0}
AreFollowing v (w ∷ ws) = Follows v w × AreFollowing w ws

-- a row of versions
abbrev pub IsRow : List Version → Type 0
IsRow [] = Unit {0}
IsRow (v ∷ vs) = IsFirst v × AreFollowing v vs

-- a row of versions that ends with v
pub record IsRowTo (row : List Version) (v : Version) : Type 0 where
  pub is_row : IsRow row
  pub ends : (before : List Version) × (row ≡ before ++ v ∷ [])
