-- What becomes of every view.
use Rattle.std.specs.Prelude.{ℕ, ◌≡◌, ◌+◌, ◌<◌, ◌≤◌, Bool, List, [], ◌∷◌, ◌++◌, length, map, take, drop}
use Rattle.display_map.specs.Events.{Published, event_limit}
use Rattle.display_map.specs.Replay.{History, appended}
use Rattle.split_views.specs.Views.{history_of}

-- a version of each of the first views was published
abbrev pub ArePublished : Bool → List History → List History → Type 0
ArePublished last old new =
    (count : ℕ) × (new ≡ map (λ h. appended h (Published last ∷ [])) (take count old) ++ drop count old)

-- a fact about each view, before and after
abbrev pub OfEach : (History → History → Type 0) → List History → List History → Type 0
OfEach P old new = (view : ℕ) → view < length old → P (history_of old view) (history_of new view)

-- some journal has no room for so many events more
abbrev pub IsOneFull : ℕ → List History → Type 0
IsOneFull events histories =
    (view : ℕ) × (view < length histories) × (event_limit < length (history_of histories view).events + events)
