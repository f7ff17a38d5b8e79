use Rattle.display_map.proofs.Sent.{display_sent}
use Rattle.display_session.proofs.lone.land_done.Goals as goal

pub land-requires-send-S-Held : goal.land-requires-send-S-Held
land-requires-send-S-Held _ _ = search display_sent depth 12 fits 4000

pub land-requires-sync-S-Held : goal.land-requires-sync-S-Held
land-requires-sync-S-Held _ _ = search display_sent depth 12 fits 4000
