use Rattle.std.proofs.Common.{length, ap, ◌∙◌}
use Rattle.map_sheet.proofs.Sent.{sheet_sent}
use Rattle.map_sheet.proofs.kept.MapSheetSheet.row_count.Goals as goal

pub returns : goal.returns
returns c = c.row_count.ensures ∙ ap length c.shown.ensures.rows

pub row_count-requires-send-R : goal.row_count-requires-send-R
row_count-requires-send-R c κs = search sheet_sent depth 12 fits 4000

pub row_count-requires-sync-R : goal.row_count-requires-sync-R
row_count-requires-sync-R c κs = search sheet_sent depth 12 fits 4000
