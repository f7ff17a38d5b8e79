use Rattle.std.proofs.Common.{ap, length, subst, arith}
use Rattle.block_map.specs.inside.StopLists.{AreRising}
use Rattle.block_map.proofs.StopEdits.{rising-from}
use Rattle.block_map.proofs.StopPlaces.{length-stops}
use Rattle.block_map.proofs.stops.Stops.len.Goals as goal

pub returns-clause-len : goal.returns-clause-len
returns-clause-len c = omega (arith, c.len.ensures, length-stops 0 c.self.inside.splices, ap length c.self.view_is)

pub returns-clause-rising : goal.returns-clause-rising
returns-clause-rising c = subst (AreRising 0) c.self.view_is (rising-from 0 c.self.inside.splices)
