-- The line is refused for its fault, or there was no memory before it was noted.
use Rattle.std.proofs.Common.{Err, refl}
use Rattle.cell_units.specs.declared.fault.Fault.TheVariants as faults
use Rattle.script_runner.specs.declared.stop.Stop.TheVariants as stops
use Rattle.split_script.specs.Lines.{Own}
use Rattle.split_runner.specs.Going.{stage}
use Rattle.split_runner.proofs.LineHandled.{unread-as}
use Rattle.split_runner.proofs.OwnHandled.{line-short}
use Rattle.split_runner.proofs.runner.Runner.refuse_unread.Goals as goal

pub returns-in-Refused-clause-handled : goal.returns-in-Refused-clause-handled
returns-in-Refused-clause-handled g c =
    unread-as c.args.number c.args.view c.args.fault (faults.Refused c.in-Refused.refusal)
    (stage g.K.Sink.state c.args.self.now) (stage g.K.Sink.state c.refuse.new.self) c.refuse.result c.in-Refused.is c.refuse.ensures.handled

pub returns-in-NoMemory-clause-handled : goal.returns-in-NoMemory-clause-handled
returns-in-NoMemory-clause-handled g c =
    unread-as c.args.number c.args.view c.args.fault faults.NoMemory
    (stage g.K.Sink.state c.args.self.now) (stage g.K.Sink.state c.args.self.now) (Err stops.Memory) c.in-NoMemory.is
    (λ bytes. line-short c.args.number (Own c.args.view bytes) c.args.self.now.split c.args.self.now.split c.args.self.now.undo c.args.self.now.undo
    (g.K.Sink.state c.args.self.now.out.now) (Err stops.Memory) refl refl)
