use Rattle.map_sheet.proofs.Sent.{sheet_sent}
use Rattle.test_jobs.proofs.histories.a_version_stays_as_it_was.Goals as goal

pub publish_and_wrap-requires-send-S-Held : goal.publish_and_wrap-requires-send-S-Held
publish_and_wrap-requires-send-S-Held _ _ _ = search sheet_sent depth 12 fits 4000

pub publish_and_wrap-requires-sync-S-Held : goal.publish_and_wrap-requires-sync-S-Held
publish_and_wrap-requires-sync-S-Held _ _ _ = search sheet_sent depth 12 fits 4000
