use Rattle.std.proofs.Common.{length, sym, ap, subst, ◌∙◌}
use Rattle.std.proofs.lemmas.List.{length-map}
use Rattle.cell_units.specs.Pieces.{pieces_of}
use Rattle.cell_units.specs.Record.{Record}
use Rattle.cell_units.specs.Folded.{display_lines}
use Rattle.cell_units.specs.Lawful.{source_of}
use Rattle.plain_rows.specs.FoldedLines.{AreLinesOf, LaidOut}
use Rattle.display_sheet.specs.Sheets.{record_in}
use Rattle.display_sheet.proofs.sheet.Sheet.lines.Goals as goal

pub returns : goal.returns
returns c =
    c.lines.ensures (source_of (record_in c.self.inside)) (subst (λ (l : LaidOut). AreLinesOf (source_of (record_in c.self.inside)) l) (sym c.deref.ensures) c.self.invariant.laid_out)
    ∙ length-map (display_lines (record_in c.self.inside).text (record_in c.self.inside).inlays (record_in c.self.inside).folds) pieces_of
    ∙ ap (λ (r : Record). length (display_lines r.text r.inlays r.folds)) c.self.view_is
