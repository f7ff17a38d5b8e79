use Rattle.std.proofs.Common.{sym, arith}
use Rattle.cell_line.proofs.RowEnds.{end_here, end_past, end_well}
use Rattle.cell_line.proofs.filling.Row.end.Goals as goal

pub returns-in-Some : goal.returns-in-Some
returns-in-Some c = λ es room lead mark m h over. sym (end_well es room lead c.args.at c.args.self mark c.in-Some.well m h over c.in-Some.is)

pub returns-then-self-at : goal.returns-then-self-at
returns-then-self-at c = λ es room lead mark m h over. sym (end_here es room lead c.args.at c.args.self mark m h over c.in-None.is c.if-self-at.true)

pub returns-else-self-at : goal.returns-else-self-at
returns-else-self-at c = λ es room lead mark m h over. sym (end_past es room lead c.args.at c.args.self mark m h over c.in-None.is (omega (arith, c.if-self-at.false)))
