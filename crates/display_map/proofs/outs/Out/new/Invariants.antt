use Rattle.std.proofs.Common.{◌≡◌}
use Rattle.display_map.specs.Outs.{some_places}
use Rattle.display_map.proofs.outs.Out.new.Given as goal

abbrev pub invariant-loop-i : goal.invariant-loop-i
invariant-loop-i l = l.lines.items ≡ some_places l.first l.i
