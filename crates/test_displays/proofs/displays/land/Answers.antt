use Rattle.display_map.proofs.Sent.{display_sent}
use Rattle.test_displays.proofs.displays.land.Goals as goal

pub do_job-requires-send-N : goal.do_job-requires-send-N
do_job-requires-send-N c κs = search display_sent depth 12 fits 4000

pub do_job-requires-sync-N : goal.do_job-requires-sync-N
do_job-requires-sync-N c κs = search display_sent depth 12 fits 4000

pub land-requires-send-S-Held : goal.land-requires-send-S-Held
land-requires-send-S-Held c κs = search display_sent depth 12 fits 4000

pub land-requires-sync-S-Held : goal.land-requires-sync-S-Held
land-requires-sync-S-Held c κs = search display_sent depth 12 fits 4000
