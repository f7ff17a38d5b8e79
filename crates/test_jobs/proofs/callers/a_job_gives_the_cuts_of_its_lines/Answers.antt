use Rattle.map_sheet.proofs.Sent.{sheet_sent}
use Rattle.test_jobs.proofs.callers.a_job_gives_the_cuts_of_its_lines.Goals as goal

pub cut_lines-requires-send-S-Held : goal.cut_lines-requires-send-S-Held
cut_lines-requires-send-S-Held _ _ _ = search sheet_sent depth 12 fits 4000

pub cut_lines-requires-sync-S-Held : goal.cut_lines-requires-sync-S-Held
cut_lines-requires-sync-S-Held _ _ _ = search sheet_sent depth 12 fits 4000
