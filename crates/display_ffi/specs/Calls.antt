-- What calls on a handle do.
use Rattle.std.specs.Prelude.{ℕ, ◌≡◌, false, List, [], ◌∷◌, Option, Some, None}
use Rattle.cell_units.specs.Text.{clean}
use Rattle.display_map.specs.Events.{Published}
use Rattle.display_session.specs.declared.session.Session.{Session}
use Rattle.display_session.specs.Watches.{asked_at}

-- a handle held one session before a call and another after it, which go with one another so; or it was closed, and is
abbrev pub Both : (Session → Session → Type 0) → Option Session → Option Session → Type 0
Both P None None = Unit {0}
Both P (Some a) (Some b) = P a b
Both P _ _ = ⊥

-- the changed rows were last asked for when they were before
abbrev pub AskStays : Option Session → Option Session → Type 0
AskStays = Both (λ a b. asked_at b.watch ≡ asked_at a.watch)

-- a handle holds a session with the text as it is opened, and no marks, which never was asked for changed rows
abbrev pub IsOpened : List ℕ → Option Session → Type 0
IsOpened text None = ⊥
IsOpened text (Some s) =
    (s.display ≡ record { opening = clean text; events = Published false ∷ [] })
    × (s.marks ≡ [])
    × (asked_at s.watch ≡ None)
