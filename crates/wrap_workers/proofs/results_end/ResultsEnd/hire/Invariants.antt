use Rattle.std.proofs.Common.{Some}
use Rattle.wrap_workers.proofs.results_end.ResultsEnd.hire.Given as goal

abbrev pub ghosts-cut_right : goal.ghosts-cut_right
ghosts-cut_right g a = record { named = Some a.job.now }
