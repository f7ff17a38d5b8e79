use Rattle.std.proofs.Common.{◌≡◌, ◌++◌, drop}
use Rattle.display_map.specs.OutRuns.{lines_out}
use Rattle.display_map.proofs.outs.lines_out.Given as goal

abbrev pub invariant-loop-out : goal.invariant-loop-out
invariant-loop-out l = l.lines.items ++ lines_out l.width (drop l.out-index l.outs) ≡ lines_out l.width l.outs
