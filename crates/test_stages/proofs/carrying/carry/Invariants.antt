use Rattle.std.proofs.Common.{◌≡◌, ◌++◌, map, take, drop}
use Rattle.test_stages.specs.Places.{carried}
use Rattle.test_stages.proofs.carrying.carry.Given as goal

abbrev pub invariant-loop-i : goal.invariant-loop-i
invariant-loop-i l = l.places ≡ map (carried l.run) (take l.i l.initial.places) ++ drop l.i l.initial.places
