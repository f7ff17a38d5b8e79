use Rattle.view_changes.proofs.Marks.{landed-lines, true-landed}
use Rattle.view_changes.proofs.Meaning.{are-rows, true-operation}
use Rattle.view_changes.proofs.TrueRows.{covered-further, true-covered}
use Rattle.view_changes.proofs.laws.event_laws.Goals as goal

pub returns-clause-operation : goal.returns-clause-operation
returns-clause-operation c = are-rows

pub returns-clause-replaced : goal.returns-clause-replaced
returns-clause-replaced c = true-operation

pub returns-clause-landing : goal.returns-clause-landing
returns-clause-landing c = true-landed

pub returns-clause-covers : goal.returns-clause-covers
returns-clause-covers c = true-covered

pub returns-clause-further : goal.returns-clause-further
returns-clause-further c = covered-further

pub returns-clause-landed : goal.returns-clause-landed
returns-clause-landed c = landed-lines
