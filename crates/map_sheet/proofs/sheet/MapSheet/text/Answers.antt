use Rattle.std.proofs.Common.{ap, ◌∙◌}
use Rattle.cell_units.specs.Lawful.{source_of}
use Rattle.map_sheet.proofs.sheet.MapSheet.text.Goals as goal

pub returns : goal.returns
returns c = c.deref.ensures ∙ c.self.invariant.source_is ∙ ap source_of c.self.view_is
