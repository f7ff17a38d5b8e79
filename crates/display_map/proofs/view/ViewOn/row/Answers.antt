use Rattle.std.proofs.Common.{◌≡◌, List, subst}
use Rattle.std.specs.List.{slice_get}
use Rattle.std.specs.Result.{IfOk}
use Rattle.plain_rows.specs.Rows.{Row, rows_of}
use Rattle.plain_rows.specs.ShownRows.{shown_row}
use Rattle.display_sheet.proofs.Unstamped.{rows_of-unstamped}
use Rattle.display_map.proofs.Views.{read}
use Rattle.display_map.proofs.view.ViewOn.row.Goals as goal

pub returns-clause-row : goal.returns-clause-row
returns-clause-row g c =
    let rows = read c.self.invariant c.self.view_is rows_of rows_of-unstamped in
    subst (λ (rows : List Row). IfOk c.row.result (λ shown. shown_row shown ≡ slice_get rows c.args.row)) rows c.row.ensures.row
