-- Every view is settled, or the run stops.
use Rattle.display_map.proofs.Sent.{display_sent}
use Rattle.split_runner.proofs.LineHandled.{settles-all, settles-full, settles-short}
use Rattle.split_runner.proofs.runner.Runner.settle.Goals as goal

pub settle_all-requires-send-S-Held : goal.settle_all-requires-send-S-Held
settle_all-requires-send-S-Held _ _ _ = search display_sent depth 12 fits 4000

pub settle_all-requires-sync-S-Held : goal.settle_all-requires-sync-S-Held
settle_all-requires-sync-S-Held _ _ _ = search display_sent depth 12 fits 4000

pub returns-in_err-settle_all-clause-settled : goal.returns-in_err-settle_all-clause-settled
returns-in_err-settle_all-clause-settled g c =
    settles-short c.args.self.now.split c.settle_all.new.self c.args.self.now.undo (g.K.Sink.state c.args.self.now.out.now)
    c.settle_all.ensures.count c.in_err-settle_all.ensures.begun c.from_residual.result c.from_residual.ensures.1

pub returns-then-not-branch-clause-settled : goal.returns-then-not-branch-clause-settled
returns-then-not-branch-clause-settled g c =
    settles-full c.args.self.now.split c.settle_all.new.self c.args.self.now.undo (g.K.Sink.state c.args.self.now.out.now)
    c.settle_all.ensures.count c.in_ok-settle_all.ensures.wrapped (c.in_ok-settle_all.ensures.full c.if-not-branch.true)

pub returns-clause-settled : goal.returns-clause-settled
returns-clause-settled g c =
    settles-all c.args.self.now.split c.settle_all.new.self c.args.self.now.undo (g.K.Sink.state c.args.self.now.out.now)
    c.settle_all.ensures.count c.in_ok-settle_all.ensures.wrapped (c.in_ok-settle_all.ensures.settled c.if-not-branch.false)
