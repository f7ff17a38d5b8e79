use Rattle.display_map.proofs.Sent.{display_sent}
use Rattle.test_split.proofs.calls.settle.Goals as goal

pub settle-requires-send-S-Held : goal.settle-requires-send-S-Held
settle-requires-send-S-Held _ _ _ = search display_sent depth 12 fits 4000

pub settle-requires-sync-S-Held : goal.settle-requires-sync-S-Held
settle-requires-sync-S-Held _ _ _ = search display_sent depth 12 fits 4000
