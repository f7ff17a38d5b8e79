-- Where no line waits and one isn't wrapped, a job is out.
use Rattle.std.proofs.Common.{arith}
use Rattle.live_display.proofs.Rounds.{none-outstanding, unsettled-out}
use Rattle.display_map.proofs.Sent.{display_sent}
use Rattle.live_display.proofs.owner.Owner.is_unfinished.Goals as goal

pub returns-else-out-gt0-clause-out : goal.returns-else-out-gt0-clause-out
returns-else-out-gt0-clause-out c = unsettled-out c.args.self.now c.settled.result c.requires.owned c.requires.busy c.settled.ensures

pub returns-else-out-gt0-clause-landed : goal.returns-else-out-gt0-clause-landed
returns-else-out-gt0-clause-landed c =
    λ e. none-outstanding c.args.self.now c.requires.owned (omega (arith, c.if-out-gt0.false, c.out.ensures.value))

pub out-requires-send-N : goal.out-requires-send-N
out-requires-send-N _ _ = search display_sent depth 12 fits 4000

pub out-requires-sync-N : goal.out-requires-sync-N
out-requires-sync-N _ _ = search display_sent depth 12 fits 4000
