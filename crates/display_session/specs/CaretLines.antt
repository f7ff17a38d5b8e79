-- How carets and selections print.
use Rattle.std.specs.Prelude.{ℕ, List, [], ◌∷◌, ◌++◌, map, codes}
use Rattle.std.specs.Fmt.{decimal}
use Rattle.cell_units.specs.Record.{Record}
use Rattle.edit_script.specs.declared.asked.CaretQuery.{CaretQuery}
use Rattle.edit_script.specs.declared.asked.CaretQuery.TheVariants.{Move, Select}
use Rattle.view_moves.specs.declared.caret.Caret.{Caret}
use Rattle.view_moves.specs.declared.caret.RowSpan.{RowSpan}
use Rattle.view_moves.specs.Moves.{caret, selection}

-- <row> <col> <goal>
abbrev pub caret_line : Caret → List ℕ
caret_line c = decimal c.spot.row ++ (codes " " ++ (decimal c.spot.col ++ (codes " " ++ decimal c.goal)))

-- <start> <end>
abbrev pub range_line : (start end : ℕ) → List ℕ
range_line start end = decimal start ++ (codes " " ++ decimal end)

-- <row> <from>-<to>
abbrev pub span_line : RowSpan → List ℕ
span_line span = decimal span.row ++ (codes " " ++ (decimal span.from ++ (codes "-" ++ decimal span.to)))

-- the range of a selection, and then each of its spans
abbrev pub selection_lines : (start end : ℕ) → List RowSpan → List (List ℕ)
selection_lines start end spans = range_line start end ∷ map span_line spans

-- the lines that answer a question about a caret on a record
abbrev pub caret_lines : Record → CaretQuery → List (List ℕ)
caret_lines r (Move from goal motion) = caret_line (caret r from goal motion) ∷ []
caret_lines r (Select one other) =
    let s = selection r one other in selection_lines s.start s.end s.spans
