use Rattle.map_sheet.proofs.Sent.{sheet_sent}
use Rattle.test_sheets.proofs.alike.assert_seed.Goals as goal

pub played-requires-2-send-S-Held : goal.played-requires-2-send-S-Held
played-requires-2-send-S-Held _ _ _ = search sheet_sent depth 12 fits 4000

pub played-requires-2-sync-S-Held : goal.played-requires-2-sync-S-Held
played-requires-2-sync-S-Held _ _ _ = search sheet_sent depth 12 fits 4000
