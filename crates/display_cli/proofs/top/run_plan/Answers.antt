-- A plan is made, and then nothing is read, or it names a text and a script.
use Rattle.display_cli.proofs.Ends.{reads-none}
use Rattle.display_cli.proofs.top.run_plan.Goals as goal

pub returns-in-Some-clause-ended : goal.returns-in-Some-clause-ended
returns-in-Some-clause-ended g c = c.run_made.ensures.ended (g.I.Inputs.state c.args.inputs.now)

pub returns-in-Some-clause-reads : goal.returns-in-Some-clause-reads
returns-in-Some-clause-reads g c = reads-none c.args.plan.now c.run_made.result.note (g.I.Inputs.state c.args.inputs.now)
