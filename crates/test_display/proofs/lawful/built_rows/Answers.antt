use Rattle.std.proofs.Common.{length, ap, ◌∙◌}
use Rattle.cell_units.specs.Record.{Record}
use Rattle.plain_rows.specs.Rows.{rows_of}
use Rattle.display_sheet.proofs.Unstamped.{rows_of-unstamped}
use Rattle.display_map.specs.Replay.{present_of}
use Rattle.test_display.proofs.lawful.built_rows.Goals as goal

pub returns : goal.returns
returns g c =
    c.in_ok-row_count.ensures
    ∙ ap (λ (r : Record). length (rows_of r)) c.in_ok-plain.ensures.same
    ∙ ap length (rows_of-unstamped (present_of c.args.view.now))
