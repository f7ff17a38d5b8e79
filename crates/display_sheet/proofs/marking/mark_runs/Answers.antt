use Rattle.std.proofs.Common.{◌≡◌, ◌++◌, ◌+◌, ◌<◌, ◌∷◌, ℕ, List, length, map, drop, get_or, ap, sym, subst, ◌∙◌, arith}
use Rattle.std.proofs.lemmas.List.{drop_more, get_or-map, length-map}
use Rattle.display_sheet.specs.declared.wraps.Wrapped.{Wrapped}
use Rattle.cell_line.specs.declared.lines.MarkRun.{MarkRun}
use Rattle.cell_line.specs.MarkRuns.{runs_from}
use Rattle.display_sheet.proofs.MarkedRuns.{done-other, done-same, joined}
use Rattle.display_sheet.proofs.marking.mark_runs.Goals.{then-width-run+in_ok-push_run, else-width-run}
use Rattle.display_sheet.proofs.marking.mark_runs.Goals as goal

-- what is left from a line on
left : (wraps : List Wrapped) (line : ℕ) (own : Wrapped) → line < length wraps → own ≡ get_or wraps line own →
    drop line (map (λ w. w.mark) wraps) ≡ own.mark ∷ drop (line + 1) (map (λ w. w.mark) wraps)
left wraps line own lt is =
    let ws = map (λ w. w.mark) wraps in
    drop_more ws line 0 (omega (arith, lt, length-map wraps (λ (w : Wrapped). w.mark)))
    ∙ ap (λ (n : ℕ). n ∷ drop (line + 1) ws) (get_or-map (λ (w : Wrapped). w.mark) wraps line own 0 lt ∙ sym (ap (λ (w : Wrapped). w.mark) is))

pub loop-line-preserved : goal.loop-line-preserved
loop-line-preserved c =
    let line : ℕ = c.loop-line.line in
    let wraps = c.args.wraps.now in
    let ws = map (λ (w : Wrapped). w.mark) wraps in
    let own = c.get-width.result in
    let run = c.loop-line.run in
    let done = c.loop-line.runs.items in
    let width = own.mark in
    let rest = drop (line + 1) ws in
    let all = runs_from 0 ws in
    let i = c.loop-line.invariant in
    let is =
    subst (λ (l : List ℕ). done ++ joined run (runs_from line l) ≡ all) (left wraps line own (omega (arith, c.len-line-end.ensures, c.loop-line-test.true)) c.get-width.ensures) i.runs in
    let after : List MarkRun → MarkRun → Type 0 =
    λ runs run. runs ++ joined (record { first = run.first; last = line; width = run.width }) (runs_from (line + 1) rest) ≡ all in
    record {
      runs = elim c.if-width-run.branch [
        | then-width-run+in_ok-push_run w ↦
            let more = done-other done run line width rest all w.if-width-run.true i.next is in
            let runs = ap (λ v. v.items) w.runs-is ∙ w.in_ok-push_run.ensures in
            subst (λ (run : MarkRun). after c.if-width-run.runs.items run) (sym w.run-is)
            (subst (λ (runs : List MarkRun). after runs (record { first = line; last = line; width = width })) (sym runs) more)
        | else-width-run w ↦
            let more = done-same done run line width rest all w.if-width-run.false i.next is in
            subst (λ (run : MarkRun). after c.if-width-run.runs.items run) (sym w.run-is)
            (subst (λ (runs : List MarkRun). after runs run) (sym (ap (λ v. v.items) w.runs-is)) more)
      ];
      next = λ some. omega arith;
    }
