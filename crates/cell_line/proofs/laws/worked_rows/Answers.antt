use Rattle.std.proofs.Common.{refl}
use Rattle.cell_line.proofs.WorkedRows as rows
use Rattle.cell_line.proofs.laws.worked_rows.Goals as goal

pub returns-clause-hanging_blank : goal.returns-clause-hanging_blank
returns-clause-hanging_blank c = rows.hanging_blank

pub returns-clause-tab_indent : goal.returns-clause-tab_indent
returns-clause-tab_indent c = (rows.tab_indent, refl)

pub returns-clause-long_word : goal.returns-clause-long_word
returns-clause-long_word c = rows.long_word

pub returns-clause-wide_cells : goal.returns-clause-wide_cells
returns-clause-wide_cells c = rows.wide_cells

pub returns-clause-indent_half : goal.returns-clause-indent_half
returns-clause-indent_half c = (rows.indent_half, refl)

pub returns-clause-blanks_alone : goal.returns-clause-blanks_alone
returns-clause-blanks_alone c = rows.blanks_alone

pub returns-clause-leading_blanks : goal.returns-clause-leading_blanks
returns-clause-leading_blanks c = rows.leading_blanks

pub returns-clause-trailing_cellless : goal.returns-clause-trailing_cellless
returns-clause-trailing_cellless c = rows.trailing_cellless

pub returns-clause-width_off : goal.returns-clause-width_off
returns-clause-width_off c = rows.width_off
