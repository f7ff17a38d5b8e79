-- A landing, and then what is sent.
use Rattle.live_display.proofs.Rounds.{turn-gone, turn-long, turn-halted}
use Rattle.live_display.proofs.owner.Owner.turn.Goals as goal

pub returns-clause-gone : goal.returns-clause-gone
returns-clause-gone g c =
    turn-gone c.args.self.now c.land_next.new.self c.send_runs.new.self c.send_runs.result
    c.in_ok-land_next.ensures.landed c.in_ok-land_next.ensures.team c.send_runs.ensures.gone

pub returns-clause-longer : goal.returns-clause-longer
returns-clause-longer g c =
    turn-long c.args.self.now c.land_next.new.self c.send_runs.new.self c.send_runs.result
    c.in_ok-land_next.ensures.landed c.in_ok-land_next.ensures.team c.send_runs.ensures.gone

pub returns-clause-halted : goal.returns-clause-halted
returns-clause-halted g c =
    turn-halted c.args.self.now c.land_next.new.self c.send_runs.new.self c.send_runs.result
    c.in_ok-land_next.ensures.landed c.in_ok-land_next.ensures.team c.send_runs.ensures.halted
