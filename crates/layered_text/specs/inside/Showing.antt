-- How many steps both maps take to show an operation that they were given.
use Rattle.std.specs.Prelude.{ℕ, ◌+◌, ◌*◌, ◌≤◌}
use Rattle.cell_units.specs.Layers.{Source}
use Rattle.cell_units.specs.Operation.{AddFold, Operation, RemoveFold, operated}
use Rattle.cell_units.specs.Touched.{touched}
use Rattle.plain_rows.specs.Reach.{entries_after, entries_before}
use Rattle.layered_text.specs.Bounds.{HasLevels}
use Rattle.layered_text.specs.Layered.{record_of, source_after}

-- the inlays and folds that are moved or joined anew: those on touched rows, before and after the operation. A fold
-- that was added or removed is joined with the others already
abbrev pub shown_anew : Operation → Source → ℕ
shown_anew (AddFold fold) s = 0
shown_anew (RemoveFold id) s = 0
shown_anew op s =
    let r = record_of s in
    let rows = touched op r in
    entries_before rows r + entries_after rows (operated op r)

-- n entries are shown anew
abbrev pub showing : ℕ → ℕ → ℕ
showing n h = (504 * n + 843) * (h + 1)

-- both maps show an operation in at most so many steps
abbrev pub ShowsAtMost : Operation → Source → ℕ → ℕ → Type 0
ShowsAtMost op s old new =
    (h : ℕ) → HasLevels h s → HasLevels h (source_after op s) → new ≤ old + showing (shown_anew op s) h
