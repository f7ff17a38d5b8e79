use Rattle.std.proofs.Common.{◌≡◌, ◌++◌, drop}
use Rattle.display_map.specs.Splicing.{did_events}
use Rattle.display_map.proofs.splicing.push_each.Given as goal

abbrev pub invariant-loop-i : goal.invariant-loop-i
invariant-loop-i l = l.journal ≡ l.initial.journal ++ did_events (drop l.i l.splices)
