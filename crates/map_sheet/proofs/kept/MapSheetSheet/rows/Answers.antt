use Rattle.std.proofs.Common.{◌≡◌, List, drop, take, subst}
use Rattle.std.specs.Result.{IfOk}
use Rattle.plain_rows.specs.Rows.{Row}
use Rattle.plain_rows.specs.ShownRows.{shown_rows}
use Rattle.map_sheet.proofs.Sent.{sheet_sent}
use Rattle.map_sheet.proofs.kept.MapSheetSheet.rows.Goals as goal

pub returns-clause-rows : goal.returns-clause-rows
returns-clause-rows c =
    subst (λ (rows : List Row). IfOk c.rows.result (λ found. shown_rows found.items ≡ take c.args.count (drop c.args.first rows))) c.shown.ensures.rows c.rows.ensures.rows

pub rows-requires-send-R : goal.rows-requires-send-R
rows-requires-send-R c κs = search sheet_sent depth 12 fits 4000

pub rows-requires-sync-R : goal.rows-requires-sync-R
rows-requires-sync-R c κs = search sheet_sent depth 12 fits 4000
