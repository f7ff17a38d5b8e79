use Rattle.cell_line.proofs.Walks.{alone_mark, tab_mark}
use Rattle.cell_line.proofs.mark.Mark.of_alone.Goals as goal

pub returns-then-c-eq9 : goal.returns-then-c-eq9
returns-then-c-eq9 c = rw c.tab_cells.ensures (tab_mark c.args.tab c.args.column c.args.c c.if-c-eq9.true)

pub returns : goal.returns
returns c = rw c.quiet_cells-cells.ensures (alone_mark c.args.tab c.args.column c.args.c c.requires.alone c.if-c-eq9.false)
