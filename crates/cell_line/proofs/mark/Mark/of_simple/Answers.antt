use Rattle.cell_line.proofs.Walks.{simple_mark, tab_byte_mark}
use Rattle.cell_line.proofs.mark.Mark.of_simple.Goals as goal

pub returns-then-byte-eq9 : goal.returns-then-byte-eq9
returns-then-byte-eq9 c = rw c.tab_cells.ensures (tab_byte_mark c.args.tab c.args.column c.args.byte c.if-byte-eq9.true)

pub returns : goal.returns
returns c = simple_mark c.args.tab c.args.column c.args.byte c.requires.simple c.if-byte-eq9.false
