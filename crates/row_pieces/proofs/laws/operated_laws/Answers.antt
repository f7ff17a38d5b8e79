use Rattle.row_pieces.proofs.TouchedLines.{touched-between, touched-each, touched-none}
use Rattle.row_pieces.proofs.TrueChanges.{true-covers, true-lines, true-rows}
use Rattle.row_pieces.proofs.laws.operated_laws.Goals as goal

pub returns-clause-lines : goal.returns-clause-lines
returns-clause-lines c = true-lines

pub returns-clause-rows : goal.returns-clause-rows
returns-clause-rows c = true-rows

pub returns-clause-between : goal.returns-clause-between
returns-clause-between c operation r a b after is ok order within rows = touched-between operation r is ok a b after rows order within

pub returns-clause-each : goal.returns-clause-each
returns-clause-each c = touched-each

pub returns-clause-none : goal.returns-clause-none
returns-clause-none c = touched-none

pub returns-clause-covers : goal.returns-clause-covers
returns-clause-covers c = true-covers
