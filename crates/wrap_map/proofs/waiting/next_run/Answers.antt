use Rattle.std.proofs.Common.{◌≡◌, ℕ, ◌+◌, ◌*◌, ◌<◌, ◌∙◌, min, List, get_or, length, ap, sym, subst, arith}
use Rattle.std.proofs.lemmas.List.{get_or_default}
use Rattle.cell_line.specs.declared.lines.Run.{Run}
use Rattle.wrap_map.specs.Stood.{marks_in}
use Rattle.cell_line.specs.Waiting.{IsNextIfAny}
use Rattle.wrap_map.proofs.NextRuns.{IsPassed, next-before, next-behind, none_waits, passed-on}
use Rattle.wrap_map.proofs.StepSums.{one-more}
use Rattle.wrap_map.proofs.waiting.next_run.Goals as goal

-- the run at a place of those that are out
abbrev run_at : List Run → ℕ → Run
run_at out j = get_or out j (record { first = 0; count = 0 })

is-run_at : (out : List Run) (j : ℕ) → j < length out → run_at out j ≡ get_or out j (run_at out j)
is-run_at out j h = get_or_default out j (record { first = 0; count = 0 }) (run_at out j) h

pub returns-in_err-found-clause-next : goal.returns-in_err-found-clause-next
returns-in_err-found-clause-next c =
    subst (IsNextIfAny (marks_in c.args.lines.now) c.args.width c.args.out.now) (sym c.from_residual.ensures)
    (none_waits c.args.lines.now c.args.width c.args.out.now c.loop-run.run-index c.loop-run.line c.loop-run.invariant.passed c.in_err-found.ensures.other)

pub returns-then-found-run-clause-next : goal.returns-then-found-run-clause-next
returns-then-found-run-clause-next c =
    let out = c.args.out.now in
    let run : Run = run_at out c.loop-run.run-index in
    next-before c.args.lines.now c.args.width out c.loop-run.run-index c.loop-run.line c.in_ok-found.found c.min.result run c.run_from.result
    c.requires c.loop-run.invariant.passed c.in_ok-found.ensures.other c.loop-run-test.true (is-run_at out c.loop-run.run-index c.loop-run-test.true)
    (omega (arith, c.if-run-eq0.false)) (c.min.ensures ∙ ap (min run.first) c.lines-count.ensures) c.run_from.ensures.run

pub loop-run-preserved : goal.loop-run-preserved
loop-run-preserved c =
    let out = c.args.out.now in
    let j = c.loop-run.run-index in
    let run : Run = run_at out j in
    let before = c.loop-run.invariant.counted in
    let during = c.next_other.ensures.counted in
    record {
      passed = passed-on c.args.lines.now c.args.width out j c.loop-run.line c.in_ok-found.found c.max-line.result run
          c.loop-run.invariant.passed c.loop-run-test.true (is-run_at out j c.loop-run-test.true) c.in_ok-found.ensures.other c.if-found-run.false
          (omega (arith, c.lines-count.ensures, c.lines-count.type_inv)) (omega (arith, c.max-line.ensures, c.saturating_add.ensures));
      counted = omega (arith, before, during);
      steps = λ h high. one-more j (j + 1) (2 * (h + 1)) c.args.steps.now c.loop-run.steps c.next_other.new.steps
          (c.loop-run.invariant.steps h high) (c.next_other.ensures.steps h high) (omega arith);
    }

pub returns-in_err-found-2-clause-next : goal.returns-in_err-found-2-clause-next
returns-in_err-found-2-clause-next c =
    subst (IsNextIfAny (marks_in c.args.lines.now) c.args.width c.args.out.now) (sym c.from_residual-in_err-found-2.ensures)
    (none_waits c.args.lines.now c.args.width c.args.out.now c.loop-run.run-index c.loop-run.line c.loop-run.invariant.passed c.in_err-found-2.ensures.other)

pub returns-clause-next : goal.returns-clause-next
returns-clause-next c =
    let out = c.args.out.now in
    let all : c.loop-run.run-index ≡ length out = omega (arith, c.loop-run-test.false, c.loop-run.auto.run-index-end) in
    next-behind c.args.lines.now c.args.width out c.loop-run.line c.in_ok-found-2.found c.lines-count.result c.run_from-2.result
    (subst (λ (j : ℕ). IsPassed c.args.lines.now c.args.width out j c.loop-run.line) all c.loop-run.invariant.passed)
    c.in_ok-found-2.ensures.other c.lines-count.ensures c.run_from-2.ensures.run
