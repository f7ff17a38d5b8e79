use Rattle.display_map.proofs.Sent.{display_sent}
use Rattle.display_session.proofs.lone.finished.Goals as goal

pub do_job-requires-send-N : goal.do_job-requires-send-N
do_job-requires-send-N _ _ = search display_sent depth 12 fits 4000

pub do_job-requires-sync-N : goal.do_job-requires-sync-N
do_job-requires-sync-N _ _ = search display_sent depth 12 fits 4000
