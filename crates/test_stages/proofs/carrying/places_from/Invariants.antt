use Rattle.std.proofs.Common.{◌≡◌}
use Rattle.test_stages.specs.Places.{places_from}
use Rattle.test_stages.proofs.carrying.places_from.Given as goal

abbrev pub invariant-loop-i : goal.invariant-loop-i
invariant-loop-i l = l.places.items ≡ places_from l.first l.i
