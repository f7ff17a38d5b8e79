-- Behind a line the owner is ready.
use Rattle.script_runner.proofs.Ready.{ready-line}
use Rattle.script_runner.proofs.runner.record_line.Goals as goal

pub returns-clause-ready : goal.returns-clause-ready
returns-clause-ready c =
    ready-line c.args.owner.now c.note_line.new.self c.args.number c.in_ok-note_line.ensures.noted c.requires c.note_line.ensures.owned
