use Rattle.map_sheet.proofs.Sent.{sheet_sent}
use Rattle.test_jobs.proofs.play.play_on_maps.Goals as goal

pub play-requires-send-S-Held : goal.play-requires-send-S-Held
play-requires-send-S-Held _ _ _ = search sheet_sent depth 12 fits 4000

pub play-requires-sync-S-Held : goal.play-requires-sync-S-Held
play-requires-sync-S-Held _ _ _ = search sheet_sent depth 12 fits 4000
