use Rattle.map_sheet.proofs.Sent.{sheet_sent}
use Rattle.test_jobs.proofs.histories.a_fold_past_the_end_is_refused.Goals as goal

pub assert_no_fold-requires-send-S-Held : goal.assert_no_fold-requires-send-S-Held
assert_no_fold-requires-send-S-Held _ _ _ = search sheet_sent depth 12 fits 4000

pub assert_no_fold-requires-sync-S-Held : goal.assert_no_fold-requires-sync-S-Held
assert_no_fold-requires-sync-S-Held _ _ _ = search sheet_sent depth 12 fits 4000
