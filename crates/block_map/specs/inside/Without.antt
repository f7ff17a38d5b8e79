-- Lists without the items of some places.
use Rattle.std.specs.Prelude.{ℕ, ◌+◌, ◌≤◌, ◌==◌, if◌then◌else◌, List, [], ◌∷◌}

-- the places rise from one on
abbrev pub IsRising : ℕ → List ℕ → Type 0
IsRising from [] = Unit {0}
IsRising from (a ∷ bs) = (from ≤ a) × IsRising (a + 1) bs

-- the items but those of these places; the first item has the place `at`
abbrev pub without : {X : Type 0} → List ℕ → ℕ → List X → List X
without bs at [] = []
without [] at (x ∷ xs) = x ∷ xs
without (a ∷ bs) at (x ∷ xs) = if a == at then without bs (at + 1) xs else x ∷ without (a ∷ bs) (at + 1) xs
