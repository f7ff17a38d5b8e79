-- What the definitions mean, in other words.
use Rattle.std.specs.Prelude.{ℕ, ◌*◌, ◌+◌, ◌-◌, ◌<◌, ◌≤◌, ◌≡◌, ◌⊎◌, All, Bool, true, false, List, [], ◌∷◌, length, map, take}
use Rattle.cell_units.specs.declared.piece.Piece.{Piece}
use Rattle.cell_line.specs.declared.element.Element.{Element}
use Rattle.cell_line.specs.Elements.{bytes_in, cells_of, clusters, elements_of, is_tab, total_cells}
use Rattle.cell_line.specs.Wrapping.{cuts_of, element_at, ends_well, fits, indent_of, next_start_of}

-- the elements' texts are the clusters of the pieces, and a tab is an element whose text is one tab
abbrev pub TextsAreClusters : List Piece → ℕ → Type 0
TextsAreClusters pieces tab =
    (map (λ e. e.text) (elements_of pieces tab) ≡ clusters pieces)
    × All (λ e. e.tab ≡ is_tab e.text) (elements_of pieces tab)

-- the cells of each element follow from its text and the cells before it
abbrev pub CellsFollowColumns : List Piece → ℕ → Type 0
CellsFollowColumns pieces tab =
    (k : ℕ) → k < length (elements_of pieces tab) →
    (element_at (elements_of pieces tab) k).cells
    ≡ cells_of tab (total_cells (take k (elements_of pieces tab))) (element_at (elements_of pieces tab) k).text

-- a line has at most sixteen cells for each byte of its pieces, and at most one element
abbrev pub IsBoundedByBytes : List Piece → ℕ → Type 0
IsBoundedByBytes pieces tab =
    (total_cells (elements_of pieces tab) ≤ 16 * bytes_in pieces) × (length (elements_of pieces tab) ≤ bytes_in pieces)

-- k is the greatest place after `from`, up to `to`, that passes
abbrev pub IsGreatest : (ℕ → Bool) → ℕ → ℕ → ℕ → Type 0
IsGreatest test from to k =
    (from < k) × (k ≤ to) × (test k ≡ true) × ((j : ℕ) → k < j → j ≤ to → test j ≡ false)

-- no place after `from`, up to `to`, passes
abbrev pub NonePasses : (ℕ → Bool) → ℕ → ℕ → Type 0
NonePasses test from to = (j : ℕ) → from < j → j ≤ to → test j ≡ false

-- the next row starts at the last place that ends the row well. Else it starts at the last up to which all fits, else
-- after one element
abbrev pub StartsWhereSaid : List Element → ℕ → ℕ → Type 0
StartsWhereSaid es room start =
    IsGreatest (ends_well es room start) start (length es) (next_start_of es room start)
    ⊎ (NonePasses (ends_well es room start) start (length es)
    × (IsGreatest (fits es room start) start (length es) (next_start_of es room start)
    ⊎ (NonePasses (fits es room start) start (length es) × (next_start_of es room start ≡ start + 1))))

-- the places are `start` and the starts of all rows after it, each within the line
abbrev pub AreRowStarts : List Element → ℕ → ℕ → List ℕ → Type 0
AreRowStarts es room start [] = length es ≤ start
AreRowStarts es room start (k ∷ ks) =
    (k ≡ start) × (k < length es) × AreRowStarts es room (next_start_of es room k) ks

-- the first row has the whole width, each later one the width less the indent, and each begins where the one before it
-- ends
abbrev pub CutsAreRowStarts : List Element → ℕ → Type 0
CutsAreRowStarts es width = AreRowStarts es (width - indent_of es width) (next_start_of es width 0) (cuts_of es width)
