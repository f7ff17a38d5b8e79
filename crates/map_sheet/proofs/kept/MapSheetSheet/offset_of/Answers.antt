use Rattle.std.proofs.Common.{List, ℕ, ap, ◌∙◌}
use Rattle.cell_units.specs.Layers.{Source}
use Rattle.cell_units.specs.Points.{offset_at}
use Rattle.map_sheet.proofs.kept.MapSheetSheet.offset_of.Goals as goal

pub returns-clause-value : goal.returns-clause-value
returns-clause-value c =
    c.offset_of.ensures.offset
    ∙ ap (λ (t : List ℕ). offset_at t c.args.point c.args.bias) (c.rope.ensures ∙ ap (λ (s : Source). s.text) c.text.ensures)
