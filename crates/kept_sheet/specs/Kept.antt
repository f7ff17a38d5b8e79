-- What a display asks of the record that it keeps.
use Rattle.std.specs.Prelude.{ℕ, ◌≡◌, ◌+◌, ◌<◌, ◌≤◌, ◌==◌, Bool, List, [], ◌∷◌, length, map, slice_index_or, slice_range, Option, Some, None}
use Rattle.std.specs.List.{enumerate_from, list_all, list_any}
use Rattle.cell_units.specs.Record.{Record}
use Rattle.cell_line.specs.declared.element.Element.{Element}
use Rattle.cell_line.specs.declared.lines.Run.{Run}
use Rattle.cell_line.specs.Wrapping.{cuts_of}

-- the lines of a run
abbrev pub lines_in : List (List Element) → Run → List (List Element)
lines_in lines run = slice_range lines run.first (run.first + run.count)

-- the cuts of each line of a run at a width
abbrev pub cuts_in : List (List Element) → Run → ℕ → List (List ℕ)
cuts_in lines run width = map (λ elements. cuts_of elements width) (lines_in lines run)

-- each of the lines that has a place is the line that is there now
abbrev pub AreLinesAt : List (List Element) → List (Option ℕ) → List (List Element) → Type 0
AreLinesAt now [] [] = Unit {0}
AreLinesAt now (None ∷ places) (e ∷ es) = AreLinesAt now places es
AreLinesAt now (Some line ∷ places) (e ∷ es) =
    (line < length now) × (e ≡ slice_index_or now line []) × AreLinesAt now places es
AreLinesAt now _ _ = ⊥

-- the lines at places, where they are still there
abbrev pub standing : List (Option ℕ) → List ℕ
standing [] = []
standing (None ∷ places) = standing places
standing (Some line ∷ places) = line ∷ standing places

-- of each display line of the record, whether it is at one of the places
abbrev pub placed_lines : List (Option ℕ) → Record → List Bool
placed_lines places r =
    map (λ p. list_any (λ line. line == p.0) (standing places)) (enumerate_from 0 r.marks)

-- the numbers rise from one on
abbrev pub IsRising : ℕ → List ℕ → Type 0
IsRising from [] = Unit {0}
IsRising from (a ∷ bs) = (from ≤ a) × IsRising (a + 1) bs

-- of each line the width at which it is wrapped, or 0
abbrev pub widths_of : Record → List ℕ
widths_of r = map (λ m. m.width) r.marks

-- every line is wrapped at the record's width
abbrev pub all_at_width : Record → Bool
all_at_width r = list_all (λ w. w == r.width) (widths_of r)
