use Rattle.display_cli.proofs.LinesOfRuns.{ends-script, follows-script}
use Rattle.display_cli.proofs.RunHistories.{lawful-run, legal-keeps, legal-leads}
use Rattle.display_cli.proofs.laws.run_laws.Goals as goal

pub returns-clause-records : goal.returns-clause-records
returns-clause-records c = legal-leads

pub returns-clause-lines : goal.returns-clause-lines
returns-clause-lines c = legal-keeps

pub returns-clause-script : goal.returns-clause-script
returns-clause-script c = λ text entries workers history is legal. follows-script text entries workers history legal

pub returns-clause-finished : goal.returns-clause-finished
returns-clause-finished c = λ text entries workers history is legal. ends-script text entries workers history legal

pub returns-clause-began : goal.returns-clause-began
returns-clause-began c = lawful-run
