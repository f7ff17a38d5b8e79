use Rattle.std.proofs.Common.{◌≡◌, List, drop, subst, take}
use Rattle.std.specs.Result.{IfOk}
use Rattle.plain_rows.specs.Rows.{Row, rows_of}
use Rattle.plain_rows.specs.ShownRows.{shown_rows}
use Rattle.display_sheet.proofs.Unstamped.{rows_of-unstamped}
use Rattle.display_map.proofs.Views.{read}
use Rattle.display_map.proofs.view.ViewOn.rows.Goals as goal

pub returns-clause-rows : goal.returns-clause-rows
returns-clause-rows g c =
    let rows = read c.self.invariant c.self.view_is rows_of rows_of-unstamped in
    subst (λ (rows : List Row). IfOk c.rows.result (λ shown. shown_rows shown.items ≡ take c.args.count (drop c.args.first rows))) rows
    c.rows.ensures.rows
