-- The lines before `rest` were handled: the run goes on with those of `rest`.
use Rattle.std.proofs.Common.{◌≡◌, ◌+◌, ◌-◌, ◌*◌, ◌^◌, ◌≤◌, length}
use Rattle.live_display.specs.Owned.{IsSameTeam}
use Rattle.script_runner.specs.Entries.{script_lines}
use Rattle.script_runner.specs.Output.{no_lines}
use Rattle.script_runner.specs.Course.{Course}
use Rattle.script_runner.specs.Going.{IsGoing, IsReady, SameSink, numbered_from, stage}
use Rattle.script_runner.proofs.runner.Runner.run_lines.Given as goal

abbrev pub invariant-loop-rest : goal.invariant-loop-rest
invariant-loop-rest g l =
    record {
      ready : IsReady l.self.owner;
      team : IsSameTeam l.initial.self.owner l.self.owner;
      sink : SameSink l.initial.self l.self;
      form : l.self.form ≡ l.initial.self.form;
      numbers : l.number + length l.rest ≤ l.initial.number + length l.initial.rest;
      handled : l.tally.handled ≤ l.number;
      refused : l.tally.refused ≤ l.number;
      answers : l.tally.answers ≤ l.number * (2 ^ 64 - 1);
      going : (course : Course) → course.workers ≡ l.initial.self.owner.crew.workers
          → IsGoing course (numbered_from l.initial.self.form (l.initial.number + 1) (script_lines l.initial.rest)) no_lines (stage g.K.Sink.state l.initial.self)
          → IsGoing course (numbered_from l.self.form (l.number + 1) (script_lines l.rest)) l.tally (stage g.K.Sink.state l.self);
    }

abbrev pub decreases-loop-rest : goal.decreases-loop-rest
decreases-loop-rest g l = length l.rest
