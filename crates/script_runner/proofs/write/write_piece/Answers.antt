-- What the sink takes stands behind what it took before.
use Rattle.std.proofs.Common.{◌≡◌, ◌-◌, ◌≤◌, ℕ, List, ap, length, arith, take, drop}
use Rattle.std.proofs.lemmas.List.{take-append-drop, length-drop, take_all}
use Rattle.script_runner.specs.Outside.{HasRisen, TakesFront}
use Rattle.script_runner.proofs.Fronts.{front-refused, piece-more, takes-same, risen-behind}
use Rattle.script_runner.proofs.Results.{on-err}
use Rattle.script_runner.proofs.write.write_piece.Goals as goal

pub returns-in_err-at-clause-front : goal.returns-in_err-at-clause-front
returns-in_err-at-clause-front g c =
    on-err c.from_residual.result (TakesFront c.args.piece.now (g.K.Sink.state c.args.out.now) (g.K.Sink.state c.write.new.self))
    (front-refused _ (g.K.Sink.state c.loop-at.out) _ (take c.loop-at.at c.args.piece.now) (drop c.loop-at.at c.args.piece.now) _
    c.loop-at.invariant.written c.in_err-at.ensures.refused (take-append-drop c.loop-at.at c.args.piece.now))

pub returns-in_err-at-clause-failed : goal.returns-in_err-at-clause-failed
returns-in_err-at-clause-failed g c =
    on-err c.from_residual.result (HasRisen (g.K.Sink.state c.args.out.now).faults (g.K.Sink.state c.write.new.self).faults)
    (risen-behind _ (g.K.Sink.state c.loop-at.out).faults _ c.loop-at.invariant.written.passed c.in_err-at.ensures.refused.failed)

pub loop-at-preserved : goal.loop-at-preserved
loop-at-preserved g c =
    let piece : List ℕ = c.args.piece.now in
    let at : ℕ = c.loop-at.at in
    let below = c.loop-at.invariant.within in
    let long = length-drop at piece in
    let all : take (length piece - at) (drop at piece) ≡ drop at piece = take_all (length piece - at) (drop at piece) (omega arith) in
    let some : c.in_ok-at.field-0 ≤ length (take (length piece - at) (drop at piece)) = c.in_ok-at.ensures.within in
    let lengths = ap length all in
    record {
      within = omega arith;
      written = piece-more _ (g.K.Sink.state c.loop-at.out) _ piece at c.in_ok-at.field-0 c.loop-at.invariant.written
          (takes-same _ _ _ _ (ap (take c.in_ok-at.field-0) all) c.in_ok-at.ensures.taken);
    }
