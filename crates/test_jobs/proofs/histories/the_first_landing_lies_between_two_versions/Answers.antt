use Rattle.map_sheet.proofs.Sent.{sheet_sent}
use Rattle.test_jobs.proofs.histories.the_first_landing_lies_between_two_versions.Goals as goal

pub assert_landed-requires-send-S-Held : goal.assert_landed-requires-send-S-Held
assert_landed-requires-send-S-Held _ _ _ = search sheet_sent depth 12 fits 4000

pub assert_landed-requires-sync-S-Held : goal.assert_landed-requires-sync-S-Held
assert_landed-requires-sync-S-Held _ _ _ = search sheet_sent depth 12 fits 4000
