use Rattle.std.proofs.Common.{sym, ap, ◌∙◌}
use Rattle.std.specs.Arc.{arc_value}
use Rattle.cell_units.specs.Record.{Record}
use Rattle.display_sheet.specs.Sheets.{marks_in}
use Rattle.display_sheet.proofs.Sheets.{widths, widths-marks_of}
use Rattle.display_sheet.proofs.sheet.Sheet.wraps.Goals as goal

pub returns : goal.returns
returns c =
    ap marks_in c.deref.ensures
    ∙ sym (widths-marks_of (marks_in (arc_value c.self.inside.wraps)))
    ∙ ap (λ (r : Record). widths r.marks) c.self.view_is
