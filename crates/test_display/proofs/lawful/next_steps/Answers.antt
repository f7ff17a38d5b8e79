use Rattle.display_map.specs.Replay.{present_of}
use Rattle.test_display.proofs.lawful.next_steps.Goals as goal

pub returns-clause-lawful : goal.returns-clause-lawful
returns-clause-lawful g c = λ operation allowed.
    c.step_laws.ensures.lawful operation (present_of c.args.display.now) c.lawful.ensures.lawful allowed

pub returns-clause-handed_on : goal.returns-clause-handed_on
returns-clause-handed_on g c = λ operation allowed.
    c.step_laws.ensures.handed_on operation (present_of c.args.display.now) c.lawful.ensures.lawful allowed

pub returns-clause-fresh : goal.returns-clause-fresh
returns-clause-fresh g c = λ operation allowed.
    c.step_laws.ensures.fresh operation (present_of c.args.display.now) c.lawful.ensures.lawful allowed

pub returns-clause-splices : goal.returns-clause-splices
returns-clause-splices g c = λ operation allowed a b a' b' touches.
    c.step_laws.ensures.splices operation (present_of c.args.display.now) c.lawful.ensures.lawful allowed a b a' b' touches
