-- The line is refused for its fault, or there was no memory before it was recorded.
use Rattle.script_runner.specs.Going.{at, stage}
use Rattle.script_runner.proofs.Handled.{not-begun, unread-refused, unread-short}
use Rattle.script_runner.proofs.runner.Runner.refuse_unread.Goals as goal

pub returns-in-Refused-clause-handled : goal.returns-in-Refused-clause-handled
returns-in-Refused-clause-handled g c =
    unread-refused c.args.self.now.owner.crew.workers c.args.number c.args.fault _
    (at c.args.self.now.owner.display (g.K.Sink.state c.args.self.now.out.now)) (stage g.K.Sink.state c.refuse.new.self) c.refuse.result
    c.in-Refused.is c.refuse.ensures.handled

pub returns-in-NoMemory-clause-handled : goal.returns-in-NoMemory-clause-handled
returns-in-NoMemory-clause-handled g c =
    unread-short c.args.self.now.owner.crew.workers c.args.number c.args.fault
    (at c.args.self.now.owner.display (g.K.Sink.state c.args.self.now.out.now)) (at c.args.self.now.owner.display (g.K.Sink.state c.args.self.now.out.now)) _
    c.in-NoMemory.is
    (λ course left tally entry same going.
    not-begun course c.args.number entry left tally c.args.self.now.owner.display (g.K.Sink.state c.args.self.now.out.now) going c.requires.abreast.room)
