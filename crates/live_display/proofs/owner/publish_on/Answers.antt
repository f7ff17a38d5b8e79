-- The version may come right after the newest one that the board shows.
use Rattle.live_display.proofs.owner.publish_on.Goals as goal

pub publish-requires : goal.publish-requires
publish-requires g c = c.requires c.in-Some.writer c.in-Some.is
