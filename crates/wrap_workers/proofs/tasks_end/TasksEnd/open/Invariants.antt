use Rattle.std.proofs.Common.{Some}
use Rattle.wrap_workers.proofs.tasks_end.TasksEnd.open.Given as goal

abbrev pub ghosts-settle : goal.ghosts-settle
ghosts-settle g a = record { named = Some a.like.now }
