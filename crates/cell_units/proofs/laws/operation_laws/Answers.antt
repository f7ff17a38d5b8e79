use Rattle.cell_units.proofs.TouchedRuns.{rows_are_one_run}
use Rattle.cell_units.proofs.KeptRows.{keeps_rows}
use Rattle.cell_units.proofs.RowsWithLines.{go_with_lines}
use Rattle.cell_units.proofs.LawfulOperations.{lawful-operated, opened-lawful}
use Rattle.cell_units.proofs.OperatedLines.{keeps_count, keeps_lines}
use Rattle.cell_units.proofs.laws.operation_laws.Goals as goal

pub returns-clause-opened : goal.returns-clause-opened
returns-clause-opened c = opened-lawful

pub returns-clause-lawful : goal.returns-clause-lawful
returns-clause-lawful c = λ operation r is ok. lawful-operated r is operation ok

pub returns-clause-one_run : goal.returns-clause-one_run
returns-clause-one_run c = λ operation r is ok. let k = keeps_lines r is operation ok in k.run

pub returns-clause-as_many : goal.returns-clause-as_many
returns-clause-as_many c = λ operation r is ok. keeps_count r is operation ok

pub returns-clause-same_pieces : goal.returns-clause-same_pieces
returns-clause-same_pieces c = λ operation r is ok. let k = keeps_lines r is operation ok in k.pieces

pub returns-clause-same_rows : goal.returns-clause-same_rows
returns-clause-same_rows c = λ operation r is ok. keeps_rows r is operation ok

pub returns-clause-with_lines : goal.returns-clause-with_lines
returns-clause-with_lines c = λ operation r is ok run. go_with_lines r is operation ok run

pub returns-clause-rows : goal.returns-clause-rows
returns-clause-rows c = λ r a b is ab bt. rows_are_one_run r is a b ab bt
