use Rattle.map_sheet.proofs.Sent.{sheet_sent}
use Rattle.map_sheet.proofs.kept.MapSheetSheet.width.Goals as goal

pub width-requires-send-L : goal.width-requires-send-L
width-requires-send-L c κs = search sheet_sent depth 12 fits 4000

pub width-requires-sync-L : goal.width-requires-sync-L
width-requires-sync-L c κs = search sheet_sent depth 12 fits 4000
