-- Each run that is sent is one step more.
use Rattle.std.proofs.Common.{refl}
use Rattle.live_display.specs.Beside.{is_any_landing}
use Rattle.live_display.proofs.Going.{gone-none, without-none, without-without}
use Rattle.live_display.proofs.Rounds.{err-halted, keeps-halted, keeps-more, sent-gone, sent-without}
use Rattle.live_display.proofs.owner.Owner.send_runs.Goals as goal

pub returns-in_err-send_next-clause-halted : goal.returns-in_err-send_next-clause-halted
returns-in_err-send_next-clause-halted g c =
    err-halted c.args.self.now.crew.workers c.args.self.now.display c.send_next.new.self.display c.from_residual.result c.in_err-send_next.field-0.0 c.from_residual.ensures.1
    (keeps-halted c.args.self.now c.loop.self c.send_next.new.self c.in_err-send_next.field-0.0 c.loop.invariant.keeps c.in_err-send_next.ensures.halted)

pub loop-init : goal.loop-init
loop-init g c =
    record {
      keeps = record {
        gone = gone-none c.args.self.now.crew.workers c.args.self.now.display c.args.self.now.display refl;
        owned = c.requires;
        team = record { workers = refl; board = refl };
      };
      without = without-none is_any_landing c.args.self.now.display c.args.self.now.display refl;
    }

pub loop-preserved : goal.loop-preserved
loop-preserved g c =
    record {
      keeps = keeps-more c.args.self.now c.loop.self c.send_next.new.self c.loop.invariant.keeps
          (sent-gone c.loop.self c.send_next.new.self c.in_ok-send_next.field-0 c.in_ok-send_next.ensures.sent)
          c.in_ok-send_next.ensures.owned c.in_ok-send_next.ensures.team;
      without = without-without is_any_landing c.args.self.now.display c.loop.self.display c.send_next.new.self.display c.loop.invariant.without
          (sent-without c.loop.self c.send_next.new.self c.in_ok-send_next.field-0 c.in_ok-send_next.ensures.sent);
    }
