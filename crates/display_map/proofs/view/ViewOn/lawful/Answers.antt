use Rattle.std.proofs.Common.{subst}
use Rattle.display_map.specs.LawfulStates.{IsLawfulHistory}
use Rattle.display_map.proofs.view.ViewOn.lawful.Goals as goal

pub returns : goal.returns
returns g c = subst IsLawfulHistory c.self.view_is c.self.invariant.history
