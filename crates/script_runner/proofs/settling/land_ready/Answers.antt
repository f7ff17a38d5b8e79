-- Where the owner went on, a run goes on, and where it halted, the run stopped.
use Rattle.script_runner.specs.Stopping.{stop_of}
use Rattle.script_runner.proofs.GoingOn.{goes-on, goes-err, halts-cut}
use Rattle.script_runner.proofs.Ready.{ready-landed}
use Rattle.script_runner.proofs.settling.land_ready.Goals as goal

pub returns-in_err-land_ready-clause-going : goal.returns-in_err-land_ready-clause-going
returns-in_err-land_ready-clause-going g c =
    goes-err c.args.owner.now.crew.workers c.args.owner.now.display c.land_ready.new.self.display c.from_residual.result (stop_of c.in_err-land_ready.field-0.0)
    c.from_residual.ensures.1
    (halts-cut c.args.owner.now.crew.workers c.args.owner.now.display c.land_ready.new.self.display c.in_err-land_ready.field-0.0 c.in_err-land_ready.ensures.halted)

pub returns-clause-going : goal.returns-clause-going
returns-clause-going g c = goes-on c.args.owner.now.crew.workers c.args.owner.now.display c.land_ready.new.self.display c.in_ok-land_ready.ensures.gone

pub returns-clause-ready : goal.returns-clause-ready
returns-clause-ready g c =
    ready-landed c.args.owner.now.crew.workers c.args.owner.now c.land_ready.new.self c.in_ok-land_ready.ensures.gone c.in_ok-land_ready.ensures.unsent
    c.requires c.in_ok-land_ready.ensures.owned
