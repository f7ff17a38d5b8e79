-- Lines that are wrapped from now on, at the places where they are.
use Rattle.std.specs.Prelude.{ℕ, ◌≡◌, ◌+◌, ◌^◌, ◌<◌, List, [], ◌∷◌, length, map, slice_index_or, slice_set, Option, Some, None}
use Rattle.smallvec.specs.SmallVec.{SmallVec}
use Rattle.cell_units.specs.Record.{Record}
use Rattle.cell_line.specs.declared.element.Element.{Element}
use Rattle.cell_line.specs.Wrapping.{cuts_of}
use Rattle.plain_rows.specs.Plain.{marks_of}
use Rattle.display_sheet.specs.declared.wraps.Wrapped.{Wrapped}
use Rattle.display_sheet.specs.Sheets.{marks_in}

-- a list with one number for each line, in which the lines at the places got this one
abbrev pub landed_at : ℕ → List (Option ℕ) → List ℕ → List ℕ
landed_at width [] ws = ws
landed_at width (None ∷ places) ws = landed_at width places ws
landed_at width (Some line ∷ places) ws = landed_at width places (slice_set ws line width)

-- ... of rows: as many as the line's cuts and one more
abbrev pub landed_rows : List (Option ℕ) → List (List ℕ) → List ℕ → List ℕ
landed_rows [] cuts rows = rows
landed_rows (p ∷ places) [] rows = rows
landed_rows (None ∷ places) (c ∷ cuts) rows = landed_rows places cuts rows
landed_rows (Some line ∷ places) (c ∷ cuts) rows =
    landed_rows places cuts (slice_set rows line (length c + 1))

-- the cuts are those of the lines at the places, at the width
abbrev pub AreCutsAt : List (List Element) → ℕ → List (Option ℕ) → List (List ℕ) → Type 0
AreCutsAt elements width [] [] = Unit {0}
AreCutsAt elements width (None ∷ places) (c ∷ cuts) = AreCutsAt elements width places cuts
AreCutsAt elements width (Some line ∷ places) (c ∷ cuts) =
    (line < length elements)
    × (c ≡ cuts_of (slice_index_or elements line []) width)
    × AreCutsAt elements width places cuts
AreCutsAt elements width _ _ = ⊥

-- lists of cuts as lists
abbrev pub lists_of : List (SmallVec ℕ) → List (List ℕ)
lists_of cuts = map (λ c. c.items) cuts

-- the places are those of some of so many lines, and each one's number of rows is a u32
abbrev pub FitLines : ℕ → List (Option ℕ) → List (List ℕ) → Type 0
FitLines lines [] [] = Unit {0}
FitLines lines (None ∷ places) (c ∷ cuts) = FitLines lines places cuts
FitLines lines (Some line ∷ places) (c ∷ cuts) =
    (line < lines) × (length c + 1 < 2 ^ 32) × FitLines lines places cuts
FitLines lines _ _ = ⊥

-- how many rows each line has
abbrev pub rows_in : List Wrapped → List ℕ
rows_in wraps = map (λ w. w.rows) wraps

-- the lines at the places have landed
pub record AreLanded (width : ℕ) (places : List (Option ℕ)) (cuts : List (List ℕ)) (old new : List Wrapped) : Type 0 where
  pub marks : marks_in new ≡ landed_at width places (marks_in old)
  pub rows : rows_in new ≡ landed_rows places cuts (rows_in old)

-- the record in which the lines at the places are wrapped at the width
abbrev pub with_landed_lines : ℕ → List (Option ℕ) → Record → Record
with_landed_lines width places r =
    record r { marks = marks_of (landed_at width places (map (λ m. m.width) r.marks)); next_stamp = length r.marks }
