-- Where no line waits and one isn't wrapped, a job is out.
use Rattle.live_display.proofs.Rounds.{unsettled-out}
use Rattle.display_map.proofs.Sent.{display_sent}
use Rattle.live_display.proofs.owner.Owner.wants_result.Goals as goal

pub returns-else-is_full-clause-out : goal.returns-else-is_full-clause-out
returns-else-is_full-clause-out c = unsettled-out c.args.self.now c.settled.result c.requires.owned c.requires.busy c.settled.ensures

pub is_full-requires-send-N : goal.is_full-requires-send-N
is_full-requires-send-N _ _ = search display_sent depth 12 fits 4000

pub is_full-requires-sync-N : goal.is_full-requires-sync-N
is_full-requires-sync-N _ _ = search display_sent depth 12 fits 4000
