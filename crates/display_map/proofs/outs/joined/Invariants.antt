use Rattle.display_map.proofs.OutRuns.{AreJoined}
use Rattle.display_map.proofs.outs.joined.Given as goal

abbrev pub invariant-loop-i : goal.invariant-loop-i
invariant-loop-i l = AreJoined l.lines l.i l.runs.items l.run
