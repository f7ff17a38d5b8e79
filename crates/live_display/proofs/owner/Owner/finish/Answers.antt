-- Each turn is some steps more, and leaves less room in the journal.
use Rattle.live_display.proofs.Rounds.{err-halted, keeps-halted, keeps-more, less-left}
use Rattle.live_display.proofs.owner.Owner.finish.Goals as goal

pub returns-in_err-turn-clause-halted : goal.returns-in_err-turn-clause-halted
returns-in_err-turn-clause-halted g c =
    err-halted c.args.self.now.crew.workers c.args.self.now.display c.turn.new.self.display c.from_residual-in_err-turn.result c.in_err-turn.field-0.0 c.from_residual-in_err-turn.ensures.1
    (keeps-halted c.args.self.now c.loop-self.self c.turn.new.self c.in_err-turn.field-0.0 c.loop-self.invariant.keeps c.in_err-turn.ensures.halted)

pub loop-self-smaller : goal.loop-self-smaller
loop-self-smaller g c = less-left c.loop-self.self.display c.turn.new.self.display c.in_ok-turn.ensures.longer

pub loop-self-preserved : goal.loop-self-preserved
loop-self-preserved g c =
    record {
      keeps = keeps-more c.args.self.now c.loop-self.self c.turn.new.self c.loop-self.invariant.keeps
          c.in_ok-turn.ensures.gone c.in_ok-turn.ensures.owned c.in_ok-turn.ensures.team;
      busy = c.in_ok-turn.ensures.busy;
    }
