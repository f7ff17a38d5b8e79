use Rattle.display_map.proofs.Sent.{display_sent}
use Rattle.test_displays.proofs.displays.send.Goals as goal

pub take_run-requires-send-S-Held : goal.take_run-requires-send-S-Held
take_run-requires-send-S-Held c κs = search display_sent depth 12 fits 4000

pub take_run-requires-sync-S-Held : goal.take_run-requires-sync-S-Held
take_run-requires-sync-S-Held c κs = search display_sent depth 12 fits 4000
