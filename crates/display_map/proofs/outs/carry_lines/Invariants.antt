use Rattle.std.proofs.Common.{◌≡◌, ◌++◌, map, take, drop}
use Rattle.display_map.specs.Outs.{carried}
use Rattle.display_map.proofs.outs.carry_lines.Given as goal

abbrev pub invariant-loop-i : goal.invariant-loop-i
invariant-loop-i l = l.lines ≡ map (carried l.splice.first l.splice.end l.splice.count) (take l.i l.initial.lines) ++ drop l.i l.initial.lines
