use Rattle.command_line.proofs.ViewWords.{no-run, no-views}
use Rattle.command_line.proofs.laws.view_laws.Goals as goal

pub returns-clause-no_run : goal.returns-clause-no_run
returns-clause-no_run c = no-run

pub returns-clause-no_views : goal.returns-clause-no_views
returns-clause-no_views c = no-views
