-- The lines before those that are left were written and counted.
use Rattle.std.proofs.Common.{◌≡◌, ◌+◌, ◌≤◌, length}
use Rattle.script_runner.proofs.Fronts.{AreWrittenWith}
use Rattle.script_runner.proofs.write.write_answer.Given as goal

abbrev pub invariant-loop-line : goal.invariant-loop-line
invariant-loop-line g l =
    record {
      written : AreWrittenWith l.prefix l.initial.answer l.answer (g.K.Sink.state l.initial.out) (g.K.Sink.state l.out);
      counted : l.lines + length l.answer ≡ length l.initial.answer;
      rises : l.initial.steps ≤ l.steps;
    }

abbrev pub decreases-loop-line : goal.decreases-loop-line
decreases-loop-line g l = length l.answer
