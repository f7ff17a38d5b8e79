-- The lines of a job may go to another thread.
use Rattle.display_map.proofs.Sent.{display_sent}
use Rattle.live_display.proofs.owner.Owner.wait_result.Goals as goal

pub wait_one-requires-send-N : goal.wait_one-requires-send-N
wait_one-requires-send-N _ _ _ = search display_sent depth 12 fits 4000

pub wait_one-requires-sync-N : goal.wait_one-requires-sync-N
wait_one-requires-sync-N _ _ _ = search display_sent depth 12 fits 4000
