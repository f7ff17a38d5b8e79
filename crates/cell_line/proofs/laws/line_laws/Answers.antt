use Rattle.cell_line.proofs.LineLaws.{columns_law, cuts_law, rows_law, texts_law}
use Rattle.cell_line.proofs.CellBounds.{total_cells-le, length-elements_of}
use Rattle.cell_line.proofs.Rows.{cuts-off}
use Rattle.cell_line.proofs.laws.line_laws.Goals as goal

pub returns-clause-columns : goal.returns-clause-columns
returns-clause-columns c = columns_law

pub returns-clause-rows : goal.returns-clause-rows
returns-clause-rows c = rows_law

pub returns-clause-bounds : goal.returns-clause-bounds
returns-clause-bounds c = λ pieces tab h. (total_cells-le pieces tab h, length-elements_of pieces tab)

pub returns-clause-texts : goal.returns-clause-texts
returns-clause-texts c = texts_law

pub returns-clause-cuts : goal.returns-clause-cuts
returns-clause-cuts c = cuts_law

pub returns-clause-off : goal.returns-clause-off
returns-clause-off c = cuts-off
