-- The sink took the bytes before `at`.
use Rattle.std.proofs.Common.{length, ◌-◌, ◌≤◌, take}
use Rattle.script_runner.specs.Outside.{Takes}
use Rattle.script_runner.proofs.write.write_piece.Given as goal

abbrev pub invariant-loop-at : goal.invariant-loop-at
invariant-loop-at g l =
    record {
      within : l.at ≤ length l.piece;
      written : Takes (take l.at l.piece) (g.K.Sink.state l.initial.out) (g.K.Sink.state l.out);
    }

abbrev pub decreases-loop-at : goal.decreases-loop-at
decreases-loop-at g l = length l.piece - l.at
