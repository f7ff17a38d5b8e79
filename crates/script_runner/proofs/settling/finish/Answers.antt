-- Where all is settled and has landed, the last version may be published.
use Rattle.std.proofs.Common.{inl, inr, None, [], subst, sym, arith}
use Rattle.display_map.specs.Replay.{History}
use Rattle.script_runner.specs.declared.stop.Stop.{Stop}
use Rattle.script_runner.specs.declared.stop.Stop.TheVariants as stops
use Rattle.script_runner.specs.Stopping.{stop_of}
use Rattle.script_runner.specs.Going.{IsCut, IsPlayed, at}
use Rattle.script_runner.proofs.GoingOn.{goes-on, halts-cut, going-full, going-short}
use Rattle.script_runner.proofs.Played.{played, ends-err}
use Rattle.script_runner.proofs.LastVersion.{played-cut}
use Rattle.script_runner.proofs.settling.finish.Goals as goal

pub returns-in_err-finish-clause-ends : goal.returns-in_err-finish-clause-ends
returns-in_err-finish-clause-ends g c =
    ends-err c.args.owner.now.crew.workers c.args.owner.now.display c.finish.new.self.display c.from_residual.result (stop_of c.in_err-finish.field-0.0)
    c.from_residual.ensures.1
    (λ course tally sink same going.
    halts-cut c.args.owner.now.crew.workers c.args.owner.now.display c.finish.new.self.display c.in_err-finish.field-0.0 c.in_err-finish.ensures.halted
    course [] tally sink same going)

pub returns-in_err-check_room-clause-ends : goal.returns-in_err-check_room-clause-ends
returns-in_err-check_room-clause-ends g c =
    ends-err c.args.owner.now.crew.workers c.args.owner.now.display c.finish.new.self.display c.from_residual-in_err-check_room.result
    c.in_err-check_room.field-0.0 c.from_residual-in_err-check_room.ensures.1
    (λ course tally sink same going.
    (let P : Stop → Type 0 = λ s. IsCut None course (at c.finish.new.self.display sink) s in
    subst P (sym c.in_err-check_room.ensures.full.0)
    (going-full course [] tally (at c.finish.new.self.display sink)
    (goes-on c.args.owner.now.crew.workers c.args.owner.now.display c.finish.new.self.display c.in_ok-finish.ensures.gone course [] tally sink same going)
    (omega (arith, c.in_err-check_room.ensures.full.1)))))

pub returns-in_err-publish-clause-ends : goal.returns-in_err-publish-clause-ends
returns-in_err-publish-clause-ends g c =
    ends-err c.args.owner.now.crew.workers c.args.owner.now.display c.publish.new.self.display c.from_residual-in_err-publish.result stops.Memory
    c.from_residual-in_err-publish.ensures.1
    (λ course tally sink same going.
    (let P : History → Type 0 = λ h. IsCut None course (at h sink) stops.Memory in
    let mid : History = c.finish.new.self.display in
    let before = goes-on c.args.owner.now.crew.workers c.args.owner.now.display mid c.in_ok-finish.ensures.gone course [] tally sink same going in
    let room = c.in_ok-check_room.ensures.room in
    elim c.in_err-publish.ensures.unshown [
      | inl e ↦ subst P (sym e) (going-short course [] tally (at mid sink) before (omega arith))
      | inr e ↦ subst P (sym e) (played-cut None course _ tally sink
          (played course tally (at mid sink) before c.in_ok-finish.ensures.settled c.in_ok-finish.ensures.landed (omega arith)))
    ]))

pub returns-clause-ends : goal.returns-clause-ends
returns-clause-ends g c course tally sink same going =
    let P : History → Type 0 = λ h. IsPlayed None course tally (at h sink) in
    let mid : History = c.finish.new.self.display in
    let room = c.in_ok-check_room.ensures.room in
    subst P (sym c.in_ok-publish.ensures.published)
    (played course tally (at mid sink)
    (goes-on c.args.owner.now.crew.workers c.args.owner.now.display mid c.in_ok-finish.ensures.gone course [] tally sink same going)
    c.in_ok-finish.ensures.settled c.in_ok-finish.ensures.landed (omega arith))
