use Rattle.std.proofs.Common.{List, length, ap, sym, subst, ◌∙◌}
use Rattle.std.proofs.lemmas.List.{length-map}
use Rattle.cell_units.specs.declared.piece.Piece.{Piece}
use Rattle.cell_units.specs.Layers.{shown_lines}
use Rattle.cell_line.specs.Elements.{elements_of}
use Rattle.plain_rows.specs.FoldedLines.{AreLinesOf}
use Rattle.display_sheet.specs.HeldLines.{source_in}
use Rattle.display_sheet.proofs.held.HeldLines.lines.Goals as goal

pub returns : goal.returns
returns c =
    let s = source_in c.self.inside in
    let elements = λ (ps : List Piece). elements_of ps c.self.inside.tab in
    c.lines.ensures s (subst (AreLinesOf s) (sym c.deref.ensures) c.self.invariant.laid_out)
    ∙ sym (length-map (shown_lines s) elements)
    ∙ ap length c.self.view_is
