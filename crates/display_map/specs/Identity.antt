-- Lines of one stamp, in two records of one history.
use Rattle.std.specs.Prelude.{ℕ, ◌≡◌, ◌<◌, List, [], length, map, slice_index, slice_index_or}
use Rattle.cell_units.specs.Record.{Record}
use Rattle.cell_line.specs.declared.element.Element.{Element}
use Rattle.plain_rows.specs.Rows.{line_elements}

-- two lines of one stamp have equal elements
abbrev pub AreSameLines : List ℕ → List (List Element) → List ℕ → List (List Element) → Type 0
AreSameLines stamps lines stamps' lines' =
    (j k : ℕ) → j < length stamps → k < length stamps' → slice_index stamps j ≡ slice_index stamps' k →
    slice_index_or lines j [] ≡ slice_index_or lines' k []

abbrev pub stamps_in : Record → List ℕ
stamps_in r = map (λ m. m.stamp) r.marks

-- so have those of two records
abbrev pub HaveSameLines : Record → Record → Type 0
HaveSameLines r r' = AreSameLines (stamps_in r) (line_elements r) (stamps_in r') (line_elements r')
