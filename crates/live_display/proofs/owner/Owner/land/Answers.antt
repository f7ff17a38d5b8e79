-- A result lands, and its version is published.
use Rattle.std.proofs.Common.{ap, refl}
use Rattle.wrap_workers.specs.Finishes.{job_of}
use Rattle.live_display.proofs.Steps.{halted-landed, halted-none, has-landed, landing-is-outstanding, team-landed, team-same}
use Rattle.live_display.proofs.owner.Owner.land.Goals as goal

pub take_in-requires-clause-out : goal.take_in-requires-clause-out
take_in-requires-clause-out g c = landing-is-outstanding c.args.self.now (job_of c.args.finished) c.requires.landing

pub returns-in-Err-clause-halted : goal.returns-in-Err-clause-halted
returns-in-Err-clause-halted g c =
    halted-none c.args.self.now.crew.workers c.args.self.now.display c.take_in.new.self.display c.in-Err.ensures.unchanged c.requires.room

pub publish-requires-clause-owned : goal.publish-requires-clause-owned
publish-requires-clause-owned g c =
    team-same _ _ _ _ _ _ _ _ refl (ap (λ crew. crew.out) c.in-Ok.ensures.crew) (ap (λ crew. crew.workers) c.in-Ok.ensures.crew) c.in-Ok.ensures.writer
    (team-landed c.job_laws.ensures.stays c.args.self.now c.take_in.new.self.display (job_of c.args.finished) c.in-Ok.ensures.landed c.requires.landing)

pub returns-in-Ok-publish-clause-landed : goal.returns-in-Ok-publish-clause-landed
returns-in-Ok-publish-clause-landed g c =
    has-landed c.args.self.now c.publish.new.self c.take_in.new.self.display (job_of c.args.finished) c.requires.landing
    c.in-Ok.ensures.landed c.in-Ok-publish.ensures.published c.requires.room

pub returns-in-Err-publish-clause-halted : goal.returns-in-Err-publish-clause-halted
returns-in-Err-publish-clause-halted g c =
    halted-landed c.args.self.now.crew.workers c.args.self.now c.take_in.new.self.display c.publish.new.self.display (job_of c.args.finished) c.requires.landing
    c.in-Ok.ensures.landed c.in-Err-publish.ensures.unshown c.requires.room
