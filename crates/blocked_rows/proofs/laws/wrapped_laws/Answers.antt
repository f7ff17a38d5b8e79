use Rattle.blocked_rows.proofs.WrappedLines.{lands-lines, splices-rows}
use Rattle.blocked_rows.proofs.laws.wrapped_laws.Goals as goal

pub returns-clause-splices : goal.returns-clause-splices
returns-clause-splices c = splices-rows

pub returns-clause-lands : goal.returns-clause-lands
returns-clause-lands c = lands-lines
