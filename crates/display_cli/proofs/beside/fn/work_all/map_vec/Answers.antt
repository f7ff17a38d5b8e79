-- The lines of a job may go to another thread.
use Rattle.display_map.proofs.Sent.{display_sent}
use Rattle.display_cli.proofs.beside.fn.work_all.map_vec.Goals as goal

pub work-requires-send-N : goal.work-requires-send-N
work-requires-send-N _ _ = search display_sent depth 12 fits 4000

pub work-requires-sync-N : goal.work-requires-sync-N
work-requires-sync-N _ _ = search display_sent depth 12 fits 4000
