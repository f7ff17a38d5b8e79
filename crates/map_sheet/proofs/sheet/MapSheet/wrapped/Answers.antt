use Rattle.std.proofs.Common.{ap, ◌∙◌}
use Rattle.map_sheet.specs.Kept.{lines_in}
use Rattle.map_sheet.proofs.sheet.MapSheet.wrapped.Goals as goal

pub returns : goal.returns
returns c = c.deref.ensures ∙ c.self.invariant.lines_are ∙ ap lines_in c.self.view_is
