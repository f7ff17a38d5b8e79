use Rattle.cell_units.specs.Rows.{line_rows}
use Rattle.wrap_map.specs.Standing.{shown_rows}
use Rattle.wrap_map.proofs.Snapshots.{first-text}
use Rattle.wrap_map.proofs.snapshot.WrapSnapshotRows.row_text.Goals as goal

pub returns : goal.returns
returns g c =
    first-text (line_rows (shown_rows c.args.self.now) c.args.line) c.in_ok-texts.texts.items c.args.row c.remove.result c.requires.row c.in_ok-texts.ensures
    c.remove.ensures.value
