use Rattle.map_sheet.proofs.Sent.{sheet_sent}
use Rattle.test_jobs.proofs.histories.a_line_is_noted.Goals as goal

pub note_fifth-requires-send-S-Held : goal.note_fifth-requires-send-S-Held
note_fifth-requires-send-S-Held _ _ _ = search sheet_sent depth 12 fits 4000

pub note_fifth-requires-sync-S-Held : goal.note_fifth-requires-sync-S-Held
note_fifth-requires-sync-S-Held _ _ _ = search sheet_sent depth 12 fits 4000
