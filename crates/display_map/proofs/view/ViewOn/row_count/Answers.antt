use Rattle.std.proofs.Common.{length, ap, ◌∙◌}
use Rattle.plain_rows.specs.Rows.{rows_of}
use Rattle.display_sheet.proofs.Unstamped.{rows_of-unstamped}
use Rattle.display_map.proofs.Views.{read}
use Rattle.display_map.proofs.view.ViewOn.row_count.Goals as goal

pub returns : goal.returns
returns g c = c.row_count.ensures ∙ ap length (read c.self.invariant c.self.view_is rows_of rows_of-unstamped)
