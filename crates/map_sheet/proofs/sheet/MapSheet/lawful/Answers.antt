use Rattle.std.proofs.Common.{◌≡◌, ◌≤◌, length, subst}
use Rattle.cell_units.specs.declared.limits.TheConstants.{LAID_LIMIT}
use Rattle.cell_units.specs.Lawful.{IsLawful}
use Rattle.cell_units.specs.Record.{Record}
use Rattle.display_sheet.specs.Shown.{unstamped}
use Rattle.map_sheet.proofs.sheet.MapSheet.lawful.Goals as goal

pub returns-clause-lawful : goal.returns-clause-lawful
returns-clause-lawful c = subst IsLawful c.self.view_is c.self.invariant.lawful

pub returns-clause-short : goal.returns-clause-short
returns-clause-short c = subst (λ (r : Record). length r.text ≤ LAID_LIMIT) c.self.view_is c.self.invariant.short

pub returns-clause-plain : goal.returns-clause-plain
returns-clause-plain c = subst (λ (r : Record). unstamped r ≡ r) c.self.view_is c.self.invariant.plain
