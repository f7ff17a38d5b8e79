use Rattle.std.proofs.Common.{◌≡◌, true, sym, subst, arith}
use Rattle.display_map.specs.Replay.{History, is_settled, present_of, state_of}
use Rattle.split_views.specs.Wrapping.{HasWrappedNext}
use Rattle.display_map.proofs.Settled.{all-settled}
use Rattle.split_views.proofs.Wraps.{wrapped-more}
use Rattle.split_views.proofs.wrapping.wrap_all.Goals as goal

pub returns-then-not-branch-clause-settled : goal.returns-then-not-branch-clause-settled
returns-then-not-branch-clause-settled g c = λ _.
    let h = c.runs.display in
    let new = c.wrap_next.new.display in
    let none = subst (HasWrappedNext h new) c.if-not-branch.true c.in_ok-wrap_next.ensures.wrapped in
    subst (λ (k : History). is_settled (present_of k) ≡ true) (sym none.0) (all-settled (state_of h) c.runs.invariant.idle none.1)

pub runs-preserved : goal.runs-preserved
runs-preserved g c =
    let h = c.runs.display in
    let new = c.wrap_next.new.display in
    record {
      wrapped = wrapped-more c.args.display.now h new true c.runs.invariant.wrapped (subst (HasWrappedNext h new) c.if-not-branch.false c.in_ok-wrap_next.ensures.wrapped);
      idle = c.in_ok-wrap_next.ensures.idle;
      counted = omega (arith, c.runs.invariant.counted, c.in_ok-wrap_next.ensures.counted);
    }
