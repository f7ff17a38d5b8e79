-- One more view is settled, or begun.
use Rattle.std.proofs.Common.{◌≡◌, true, length, arith}
use Rattle.display_map.specs.Replay.{is_settled, present_of}
use Rattle.split_views.specs.Wrapping.{IsIdle}
use Rattle.split_views.proofs.EachView.{all-of, began, idle-all, next-first, wrapped-all}
use Rattle.split_views.proofs.Wraps.{on_err}
use Rattle.split_views.proofs.split.SplitOn.settle_all.Goals as goal

pub returns-in_err-settle-clause-begun : goal.returns-in_err-settle-clause-begun
returns-in_err-settle-clause-begun g c =
    let first = c.loop-view.invariant.first in
    let count : length c.loop-view.self ≡ length c.args.self.now = first.count in
    on_err c.from_residual.result
    (λ view less. began c.loop-view.view c.args.self.now c.loop-view.self c.settle.new.self first
    (omega (arith, c.loop-view-test.true, c.views-view-end.ensures, count)) c.in_err-settle.ensures.others view c.in_err-settle.ensures.begun)

pub returns-then-not-branch-clause-wrapped : goal.returns-then-not-branch-clause-wrapped
returns-then-not-branch-clause-wrapped g c =
    let first = c.loop-view.invariant.first in
    let count : length c.loop-view.self ≡ length c.args.self.now = first.count in
    λ view less. wrapped-all c.loop-view.view c.args.self.now c.loop-view.self c.settle.new.self first
    (omega (arith, c.loop-view-test.true, c.views-view-end.ensures, count)) c.in_ok-settle.ensures.others c.in_ok-settle.ensures.wrapped view

pub returns-then-not-branch-clause-idle : goal.returns-then-not-branch-clause-idle
returns-then-not-branch-clause-idle g c =
    let first = c.loop-view.invariant.first in
    let count : length c.loop-view.self ≡ length c.args.self.now = first.count in
    all-of IsIdle c.settle.new.self
    (λ view less. idle-all c.loop-view.view c.args.self.now c.loop-view.self c.settle.new.self first
    (omega (arith, c.loop-view-test.true, c.views-view-end.ensures, count)) c.in_ok-settle.ensures.others c.in_ok-settle.ensures.idle view less)

pub loop-view-preserved : goal.loop-view-preserved
loop-view-preserved g c =
    let first = c.loop-view.invariant.first in
    let count : length c.loop-view.self ≡ length c.args.self.now = first.count in
    record {
      first = next-first c.loop-view.view c.args.self.now c.loop-view.self c.settle.new.self first
          (omega (arith, c.loop-view-test.true, c.views-view-end.ensures, count)) c.in_ok-settle.ensures.others c.in_ok-settle.ensures.wrapped
          c.in_ok-settle.ensures.idle (c.in_ok-settle.ensures.settled c.if-not-branch.false);
      counted = omega (arith, c.loop-view.invariant.counted, c.in_ok-settle.ensures.counted);
    }

pub returns-clause-idle : goal.returns-clause-idle
returns-clause-idle g c = all-of IsIdle c.loop-view.self c.loop-view.invariant.first.idle

pub returns-clause-settled : goal.returns-clause-settled
returns-clause-settled g c =
    let first = c.loop-view.invariant.first in
    let count : length c.loop-view.self ≡ length c.args.self.now = first.count in
    λ _. all-of (λ h. is_settled (present_of h) ≡ true) c.loop-view.self
    (λ view less. first.settled view (omega (arith, less, c.loop-view-test.false, c.views-view-end.ensures, count)))
