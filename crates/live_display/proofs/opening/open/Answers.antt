-- The owner that was opened has its team.
use Rattle.live_display.proofs.Begun.{team-opened}
use Rattle.display_map.proofs.Sent.{display_sent}
use Rattle.live_display.proofs.opening.open.Goals as goal

pub returns-in-Ok-publish_first-clause-opened : goal.returns-in-Ok-publish_first-clause-opened
returns-in-Ok-publish_first-clause-opened g c =
    record {
      display = c.in-Ok-publish_first.ensures.published;
      team = c.in-Ok.ensures.out.2;
      owned = team-opened c.args.display c.publish_first.new.display c.args.workers c.in-Ok.crew.workers c.in-Ok.crew.out c.in-Ok-publish_first.writer c.requires.events c.requires.workers.0
          c.in-Ok-publish_first.ensures.published c.in-Ok.ensures.out.0 c.in-Ok.ensures.out.2 c.in-Ok-publish_first.ensures.newest;
      board = c.in-Ok-publish_first.ensures.board;
      known = c.in-Ok-publish_first.ensures.readers;
      none = c.in-Ok-publish_first.ensures.none;
    }

pub crew-requires-send-N : goal.crew-requires-send-N
crew-requires-send-N _ _ _ = search display_sent depth 12 fits 4000

pub crew-requires-sync-N : goal.crew-requires-sync-N
crew-requires-sync-N _ _ _ = search display_sent depth 12 fits 4000
