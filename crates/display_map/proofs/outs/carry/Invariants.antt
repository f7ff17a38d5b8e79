use Rattle.std.proofs.Common.{◌≡◌, ◌++◌, map, take, drop}
use Rattle.display_map.specs.Outs.{carried_out}
use Rattle.display_map.proofs.outs.carry.Given as goal

abbrev pub invariant-loop-out : goal.invariant-loop-out
invariant-loop-out l = l.outs ≡ map (carried_out l.splice.first l.splice.end l.splice.count) (take l.out-index l.initial.outs) ++ drop l.out-index l.initial.outs
