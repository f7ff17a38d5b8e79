-- The lines of a job may go to another thread.
use Rattle.display_map.proofs.Sent.{display_sent}
use Rattle.live_display.proofs.owner.Owner.dismiss.Goals as goal

pub stop-requires-send-N : goal.stop-requires-send-N
stop-requires-send-N _ _ _ = search display_sent depth 12 fits 4000

pub stop-requires-sync-N : goal.stop-requires-sync-N
stop-requires-sync-N _ _ _ = search display_sent depth 12 fits 4000
