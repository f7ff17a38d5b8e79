-- The lines of a job may go to another thread.
use Rattle.display_map.proofs.Sent.{display_sent}
use Rattle.live_display.proofs.owner.Owner.land_one.Goals as goal

pub collect-requires-send-N : goal.collect-requires-send-N
collect-requires-send-N _ _ _ = search display_sent depth 12 fits 4000

pub collect-requires-sync-N : goal.collect-requires-sync-N
collect-requires-sync-N _ _ _ = search display_sent depth 12 fits 4000
