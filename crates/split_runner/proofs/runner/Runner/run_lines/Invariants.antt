-- The lines before `rest` are done.
use Rattle.std.proofs.Common.{◌≡◌, ◌+◌, ◌≤◌, false, [], length}
use Rattle.script_runner.specs.Entries.{script_lines}
use Rattle.split_script.specs.Met.{numbered}
use Rattle.split_script.specs.Theorems.{SplitCourse}
use Rattle.split_runner.specs.Going.{GoesOnAfter, IsDone, IsGoing, SameSink, stage}
use Rattle.split_runner.proofs.runner.Runner.run_lines.Given as goal

abbrev pub invariant-loop-rest : goal.invariant-loop-rest
invariant-loop-rest g l =
    record {
      sink : SameSink l.initial.self l.self;
      numbers : l.number + length l.rest ≤ length l.initial.rest;
      goes : GoesOnAfter l.number (stage g.K.Sink.state l.self);
      going : (course : SplitCourse) → course.lines ≡ numbered course.views (script_lines l.initial.rest)
          → IsGoing course [] false (stage g.K.Sink.state l.initial.self)
          → IsDone course l.number l.refused (script_lines l.rest) (stage g.K.Sink.state l.self);
    }

abbrev pub decreases-loop-rest : goal.decreases-loop-rest
decreases-loop-rest g l = length l.rest
