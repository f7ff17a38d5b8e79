-- Each result that lands is one step more.
use Rattle.std.proofs.Common.{refl}
use Rattle.live_display.specs.Beside.{is_send}
use Rattle.live_display.proofs.Going.{gone-none, without-none, without-without}
use Rattle.live_display.proofs.Rounds.{err-halted, keeps-halted, keeps-more, landed-gone, landed-without}
use Rattle.live_display.proofs.owner.Owner.land_ready.Goals as goal

pub returns-in_err-land_one-clause-halted : goal.returns-in_err-land_one-clause-halted
returns-in_err-land_one-clause-halted g c =
    err-halted c.args.self.now.crew.workers c.args.self.now.display c.land_one.new.self.display c.from_residual.result c.in_err-land_one.field-0.0 c.from_residual.ensures.1
    (keeps-halted c.args.self.now c.loop.self c.land_one.new.self c.in_err-land_one.field-0.0 c.loop.invariant.keeps c.in_err-land_one.ensures.halted)

pub loop-init : goal.loop-init
loop-init g c =
    record {
      keeps = record {
        gone = gone-none c.args.self.now.crew.workers c.args.self.now.display c.args.self.now.display refl;
        owned = c.requires;
        team = record { workers = refl; board = refl };
      };
      without = without-none is_send c.args.self.now.display c.args.self.now.display refl;
    }

pub loop-preserved : goal.loop-preserved
loop-preserved g c =
    record {
      keeps = keeps-more c.args.self.now c.loop.self c.land_one.new.self c.loop.invariant.keeps
          (landed-gone c.loop.self c.land_one.new.self c.in_ok-land_one.field-0 c.in_ok-land_one.ensures.landed)
          c.in_ok-land_one.ensures.owned c.in_ok-land_one.ensures.team;
      without = without-without is_send c.args.self.now.display c.loop.self.display c.land_one.new.self.display c.loop.invariant.without
          (landed-without c.loop.self c.land_one.new.self c.in_ok-land_one.field-0 c.in_ok-land_one.ensures.landed);
    }
