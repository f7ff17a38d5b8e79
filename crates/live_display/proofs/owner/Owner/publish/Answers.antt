-- What is published is the newest version from then on.
use Rattle.live_display.proofs.Owners.{shown}
use Rattle.live_display.proofs.owner.Owner.publish.Goals as goal

pub returns-clause-owned : goal.returns-clause-owned
returns-clause-owned g c =
    shown c.job_laws.ensures.stays c.args.self.now c.args.last c.publish.new.self c.in_ok-version.version c.publish_on.new.writer c.publish_on.result
    c.in_ok-version.ensures.published c.in_ok-version.ensures.version c.publish_on.ensures.shown c.requires.owned
