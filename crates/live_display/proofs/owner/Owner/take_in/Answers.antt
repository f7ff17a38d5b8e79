-- The lines of a job may go to another thread.
use Rattle.display_map.proofs.Sent.{display_sent}
use Rattle.live_display.proofs.owner.Owner.take_in.Goals as goal

pub land-requires-send-S-Held : goal.land-requires-send-S-Held
land-requires-send-S-Held _ _ = search display_sent depth 12 fits 4000

pub land-requires-sync-S-Held : goal.land-requires-sync-S-Held
land-requires-sync-S-Held _ _ = search display_sent depth 12 fits 4000
