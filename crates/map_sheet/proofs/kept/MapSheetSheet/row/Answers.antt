use Rattle.std.proofs.Common.{◌≡◌, List, subst}
use Rattle.std.specs.List.{slice_get}
use Rattle.std.specs.Result.{IfOk}
use Rattle.plain_rows.specs.Rows.{Row}
use Rattle.plain_rows.specs.ShownRows.{shown_row}
use Rattle.map_sheet.proofs.Sent.{sheet_sent}
use Rattle.map_sheet.proofs.kept.MapSheetSheet.row.Goals as goal

pub returns-clause-row : goal.returns-clause-row
returns-clause-row c = subst (λ (rows : List Row). IfOk c.row.result (λ found. shown_row found ≡ slice_get rows c.args.row)) c.shown.ensures.rows c.row.ensures.row

pub row-requires-send-R : goal.row-requires-send-R
row-requires-send-R c κs = search sheet_sent depth 12 fits 4000

pub row-requires-sync-R : goal.row-requires-sync-R
row-requires-sync-R c κs = search sheet_sent depth 12 fits 4000
