use Rattle.map_sheet.proofs.Sent.{sheet_sent}
use Rattle.test_jobs.proofs.histories.a_view_has_marks_and_a_record.Goals as goal

pub assert_kept-requires-send-S-Held : goal.assert_kept-requires-send-S-Held
assert_kept-requires-send-S-Held _ _ _ = search sheet_sent depth 12 fits 4000

pub assert_kept-requires-sync-S-Held : goal.assert_kept-requires-sync-S-Held
assert_kept-requires-sync-S-Held _ _ _ = search sheet_sent depth 12 fits 4000
