-- A list of lines, each a list of elements.
use Rattle.std.specs.Prelude.{ℕ, ◌^◌, ◌<◌, List, [], All, length, slice_index_or}
use Rattle.cell_line.specs.declared.element.Element.{Element}
use Rattle.cell_line.specs.Elements.{total_cells}

-- the elements of the line of this number; past the last line there are none
abbrev pub line_at : List (List Element) → ℕ → List Element
line_at lines line = slice_index_or lines line []

-- the count of elements and the sum of the cells are u32
abbrev pub LineFitsU32 : List Element → Type 0
LineFitsU32 elements = (length elements < 2 ^ 32) × (total_cells elements < 2 ^ 32)

-- the count of lines is a u32, and so are each line's count of elements and sum of cells
abbrev pub FitsU32 : List (List Element) → Type 0
FitsU32 lines = (length lines < 2 ^ 32) × All LineFitsU32 lines
