-- The texts of the rows of a line.
use Rattle.std.specs.Prelude.{ℕ, if◌then◌else◌, List, [], ◌∷◌, ◌++◌, map, flat_map, drop, replicate, slice_range}
use Rattle.cell_line.specs.declared.element.Element.{Element}
use Rattle.cell_line.specs.Wrapping.{cuts_of, indent_of}

-- an element as it is shown: a tab is as many spaces as it has cells
abbrev pub shown_element : Element → List ℕ
shown_element e = if e.tab then replicate e.cells 32 else e.text

abbrev pub shown_elements : List Element → List ℕ
shown_elements es = flat_map shown_element es

-- a row that goes on begins with the indent's spaces
abbrev pub later_text : ℕ → List Element → List ℕ
later_text indent es = replicate indent 32 ++ shown_elements es

-- the elements from a start on, parted at the cuts
abbrev pub parted : List Element → ℕ → List ℕ → List (List Element)
parted es start [] = drop start es ∷ []
parted es start (cut ∷ cuts) = slice_range es start cut ∷ parted es cut cuts

-- the first part is a line's first row, and the others go on
abbrev pub texts_of_parts : ℕ → List (List Element) → List (List ℕ)
texts_of_parts indent [] = []
texts_of_parts indent (part ∷ parts) = shown_elements part ∷ map (later_text indent) parts

-- the text of each row of a line that is wrapped at the width
abbrev pub row_texts_of : List Element → ℕ → List (List ℕ)
row_texts_of es width = texts_of_parts (indent_of es width) (parted es 0 (cuts_of es width))
