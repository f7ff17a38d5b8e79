-- The lines of a run landed where its widths differ.
use Rattle.std.proofs.Common.{◌≡◌, ◌<◌, ◌≤◌, ◌==◌, ℕ, not, false, get_or, ap, ◌∙◌, eq-eqb, ne_eqb, arith}
use Rattle.view_changes.specs.Events.{rewrapped}
use Rattle.view_changes.proofs.LandedRuns.{begun, further, passed, run-flag, went}
use Rattle.view_changes.proofs.Marks.{length-rewrapped}
use Rattle.view_changes.proofs.landing.landed_lines.Goals as goal
use Rattle.view_changes.proofs.landing.landed_lines.Goals.{After-min-end}

more : (c : After-min-end) → c.runs.line < c.min-end.result
more c = omega (arith, c.min-end.ensures, c.width_run-old.ensures.some, c.width_run-new.ensures.some)

-- the flag of each line of the run
flags : (c : After-min-end) (k : ℕ) → c.runs.line ≤ k → k < c.min-end.result →
    get_or (rewrapped c.args.before.now c.args.after.now) k false ≡ not (c.width_run-old.result.0 == c.width_run-new.result.0)
flags c =
    run-flag c.args.before.now c.args.after.now c.requires c.runs.line c.min-end.result c.width_run-old.result.0 c.width_run-new.result.0
    (omega (arith, c.min-end.ensures, c.width_run-old.ensures.within))
    (λ k le lt. c.width_run-old.ensures.width k le (omega (arith, lt, c.min-end.ensures)))
    (λ k le lt. c.width_run-new.ensures.width k le (omega (arith, lt, c.min-end.ensures)))

pub runs-preserved-then-to-eq0 : goal.runs-preserved-then-to-eq0
runs-preserved-then-to-eq0 c =
    let p = (goal.at.runs-preserved-then-to-eq0 c).After-min-end in
    let on = ap not (ne_eqb c.width_run-old.result.0 c.width_run-new.result.0 c.if-old-new.true) in
    record {
      landed =
          begun (rewrapped c.args.before.now c.args.after.now) c.runs.line c.min-end.result c.runs.from c.runs.to c.runs.invariant.landed (more p) (λ k le lt. flags p k le lt ∙ on) c.if-to-eq0.true;
      counted = omega (arith, c.runs.invariant.counted, c.width_run-old.ensures.counted, c.width_run-new.ensures.counted);
    }

pub runs-preserved-else-to-eq0 : goal.runs-preserved-else-to-eq0
runs-preserved-else-to-eq0 c =
    let p = (goal.at.runs-preserved-else-to-eq0 c).After-min-end in
    let on = ap not (ne_eqb c.width_run-old.result.0 c.width_run-new.result.0 c.if-old-new.true) in
    record {
      landed =
          further (rewrapped c.args.before.now c.args.after.now) c.runs.line c.min-end.result c.runs.from c.runs.to c.runs.invariant.landed (more p) (λ k le lt. flags p k le lt ∙ on) c.if-to-eq0.false;
      counted = omega (arith, c.runs.invariant.counted, c.width_run-old.ensures.counted, c.width_run-new.ensures.counted);
    }

pub runs-preserved : goal.runs-preserved
runs-preserved c =
    let p = (goal.at.runs-preserved c).After-min-end in
    let off = ap not (eq-eqb c.width_run-old.result.0 c.width_run-new.result.0 c.if-old-new.false) in
    record {
      landed = passed (rewrapped c.args.before.now c.args.after.now) c.runs.line c.min-end.result c.runs.from c.runs.to c.runs.invariant.landed (more p) (λ k le lt. flags p k le lt ∙ off);
      counted = omega (arith, c.runs.invariant.counted, c.width_run-old.ensures.counted, c.width_run-new.ensures.counted);
    }

pub returns-clause-lines : goal.returns-clause-lines
returns-clause-lines c =
    let r = c.args.before.now in
    let s = c.args.after.now in
    went (rewrapped r s) c.runs.line c.runs.from c.runs.to c.runs.invariant.landed
    (omega (arith, c.runs-test.false, c.lines-count.ensures.value, length-rewrapped r s c.requires))
