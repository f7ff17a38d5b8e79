-- The lines of a job may go to another thread.
use Rattle.display_map.proofs.Sent.{display_sent}
use Rattle.live_display.proofs.owner.Owner.hand_out.Goals as goal

pub hand_out-requires-send-N : goal.hand_out-requires-send-N
hand_out-requires-send-N _ _ _ = search display_sent depth 12 fits 4000

pub hand_out-requires-sync-N : goal.hand_out-requires-sync-N
hand_out-requires-sync-N _ _ _ = search display_sent depth 12 fits 4000
