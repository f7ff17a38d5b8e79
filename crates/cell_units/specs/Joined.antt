-- Joined folds: folds that overlap in a chain.
use Rattle.std.specs.Prelude.{ℕ, ◌<◌, ◌≤◌, ◌≡◌, true, false, List, min, max}
use Rattle.std.specs.List.{Contains}
use Rattle.cell_units.specs.Record.{Fold}
use Rattle.cell_units.specs.Folded.{inside, covered}

-- the fold and the range [s, e) each start before the other ends
abbrev pub Overlaps : Fold → ℕ → ℕ → Type 0
Overlaps f s e = (f.start < e) × (s < f.end)

-- folds of the list that overlap in a chain have this least start and this greatest end
pub data Chain (folds : List Fold) : ℕ → ℕ → Type 0 where
  One : (f : Fold) → Contains folds f → f.start < f.end → Chain folds f.start f.end
  Join : (s e : ℕ) → Chain folds s e → (f : Fold) → Contains folds f → f.start < f.end → Overlaps f s e → Chain folds (min s f.start) (max e f.end)

-- a chain that is maximal: each fold that overlaps it lies within it
pub record IsJoined (folds : List Fold) (s e : ℕ) : Type 0 where
  pub chain : Chain folds s e
  pub most : (f : Fold) → Contains folds f → f.start < f.end → Overlaps f s e → (s ≤ f.start) × (f.end ≤ e)

-- one placeholder is shown for [s, e), at its start, and nothing further up to its end
abbrev pub ShowsOnePlaceholder : List Fold → ℕ → ℕ → Type 0
ShowsOnePlaceholder folds s e =
    (covered folds s ≡ true) × (inside folds s ≡ false) × ((o : ℕ) → s < o → o < e → inside folds o ≡ true) × (inside folds e ≡ false)

-- the offset shows a placeholder
abbrev pub ShowsPlaceholder : List Fold → ℕ → Type 0
ShowsPlaceholder folds o = (covered folds o ≡ true) × (inside folds o ≡ false)
