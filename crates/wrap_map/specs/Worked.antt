-- Lines of worked rows.
use Rattle.std.specs.Prelude.{codes, List, replicate}
use Rattle.cell_line.specs.declared.element.Element.{Element}
use Rattle.cell_line.specs.Worked.{ascii}

-- ten lines of two words
abbrev pub ten : List (List Element)
ten = replicate 10 (ascii (codes "aaa bbb"))

-- three hundred lines of one letter
abbrev pub three_hundred : List (List Element)
three_hundred = replicate 300 (ascii (codes "x"))
