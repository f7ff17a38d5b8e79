use Rattle.std.proofs.Common.{◌≡◌, ◌∙◌, ℕ, ◌+◌, ◌-◌, ◌*◌, ◌≤◌, List, ◌++◌, take, drop, ap, sym, subst, arith}
use Rattle.std.proofs.Math.Nat.{mul-le-mul_left, mul_comm}
use Rattle.plain_rows.specs.Rows.{Row}
use Rattle.block_map.specs.Between.{rows_between}
use Rattle.block_map.proofs.StepSums.{more-turns}
use Rattle.block_map.proofs.Windows.{window-join}
use Rattle.block_map.proofs.snapshot.BlockSnapshot.rows.Goals as goal

pub walk-preserved : goal.walk-preserved
walk-preserved g c =
    let all = rows_between c.args.self.now in
    let m = c.walk.next - c.args.first in
    let n = c.in_ok-next.next - c.walk.next in
    let there : c.args.first + m ≡ c.walk.next = omega (arith, c.walk.invariant.begun) in
    let size : m + n ≡ c.in_ok-next.next - c.args.first = omega (arith, c.walk.invariant.begun, c.in_ok-next.ensures.some.0) in
    record {
      begun = omega (arith, c.walk.invariant.begun, c.in_ok-next.ensures.some.0);
      within = c.in_ok-next.ensures.some.1;
      rows =
          c.in_ok-next.ensures.rows
          ∙ ap (λ (l : List Row). l ++ take n (drop c.walk.next all)) c.walk.invariant.rows
          ∙ ap (λ (k : ℕ). take m (drop c.args.first all) ++ take n (drop k all)) (sym there)
          ∙ sym (window-join all c.args.first m n)
          ∙ ap (λ (k : ℕ). take k (drop c.args.first all)) size;
      counted = omega (arith, c.walk.invariant.counted, c.in_ok-next.ensures.counted);
      steps = λ h few.
          subst (λ (k : ℕ). c.push_run.new.steps ≤ c.args.steps.now + (67 * (h + 1)) * k) size
          (more-turns (67 * (h + 1)) m n c.args.steps.now c.walk.steps c.push_run.new.steps (c.walk.invariant.steps h few) (c.in_ok-next.ensures.steps h few));
    }

pub returns-in_err-next-clause-steps : goal.returns-in_err-next-clause-steps
returns-in_err-next-clause-steps g c h few =
    let x = 67 * (h + 1) in
    let m = c.walk.next - c.args.first in
    let n = c.args.first + c.min.result - c.walk.next in
    let all = more-turns x m n c.args.steps.now c.walk.steps c.push_run.new.steps (c.walk.invariant.steps h few) (c.in_err-next.ensures.steps_err h few) in
    let le : m + n ≤ c.args.count = omega (arith, c.min.ensures, c.walk.invariant.begun, c.walk.invariant.within) in
    omega (arith, all, mul-le-mul_left x le, mul_comm c.args.count x)
