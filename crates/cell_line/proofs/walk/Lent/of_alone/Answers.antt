use Rattle.cell_line.proofs.Walks.{alone_element, tab_element}
use Rattle.cell_line.proofs.walk.Lent.of_alone.Goals as goal

pub returns-then-c-eq9 : goal.returns-then-c-eq9
returns-then-c-eq9 c = rw (c.tab_cells.ensures, c.requires.text) (tab_element c.args.tab c.args.column c.args.c c.if-c-eq9.true)

pub returns : goal.returns
returns c = rw (c.quiet_cells.ensures, c.requires.text) (alone_element c.args.tab c.args.column c.args.c c.requires.alone c.if-c-eq9.false)
