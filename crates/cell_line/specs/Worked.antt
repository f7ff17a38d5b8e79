-- Lines of known cells, for worked rows.
use Rattle.std.specs.Prelude.{ℕ, List, [], ◌∷◌, map, true, false}
use Rattle.cell_units.specs.declared.piece.PieceKind.TheVariants.{Buffer}
use Rattle.cell_line.specs.declared.element.Element.{Element}
use Rattle.cell_line.specs.Elements.{elements_of}

-- printable ASCII, one cell each
abbrev pub ascii : List ℕ → List Element
ascii bytes = map (λ byte. record { text = byte ∷ []; cells = 1; tab = false }) bytes

-- a cluster of two cells
abbrev pub wide : List ℕ → Element
wide cluster = record { text = cluster; cells = 2; tab = false }

-- a cluster of no cells
abbrev pub cellless : List ℕ → Element
cellless cluster = record { text = cluster; cells = 0; tab = false }

-- a tab of so many cells
abbrev pub tab : ℕ → Element
tab cells = record { text = 9 ∷ []; cells = cells; tab = true }

-- the elements of a line of one piece at tab size 4
abbrev pub line_of : List ℕ → List Element
line_of text = elements_of (record { kind = Buffer; text = text; start = 0; end = 0 } ∷ []) 4
