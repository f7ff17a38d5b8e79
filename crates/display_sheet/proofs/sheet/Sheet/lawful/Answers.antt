use Rattle.std.proofs.Common.{subst}
use Rattle.cell_units.specs.Lawful.{IsLawful}
use Rattle.display_sheet.proofs.sheet.Sheet.lawful.Goals as goal

pub returns : goal.returns
returns c = subst IsLawful c.self.view_is c.self.invariant.lawful
