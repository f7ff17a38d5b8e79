use Rattle.std.proofs.Common.{◌≡◌, ℕ, List, [], ◌∷◌, ◌+◌, ◌++◌, get_or, sym, subst, ap, ◌∙◌, arith}
use Rattle.std.proofs.lemmas.List.{get_or_default}
use Rattle.cell_line.specs.declared.lines.Run.{Run}
use Rattle.cell_line.specs.Waiting.{AreApart}
use Rattle.display_map.proofs.OutRuns.{AreJoined, joined-all, joined-anew, joined-on}
use Rattle.display_map.proofs.outs.joined.Goals.{then-line-run, else-line-run+in_ok-push}
use Rattle.display_map.proofs.outs.joined.Goals as goal

same-joined : (places : List ℕ) (i : ℕ) (runs runs' : List Run) (run run' : Run) → runs' ≡ runs → run' ≡ run → AreJoined places i runs run → AreJoined places i runs' run'
same-joined places i runs runs' run run' same one j =
    subst (λ (rs : List Run). AreJoined places i rs run') (sym same) (subst (λ (r : Run). AreJoined places i runs r) (sym one) j)

pub loop-i-preserved : goal.loop-i-preserved
loop-i-preserved c =
    let places = c.args.lines.now in
    let l = c.loop-i in
    let place : ℕ = get_or places l.i 0 in
    let there = c.loop-i-test.true in
    let is : place ≡ get_or places l.i place = get_or_default places l.i 0 place there in
    elim c.if-line-run.branch [
      | then-line-run w ↦
          same-joined places (l.i + 1) l.runs.items c.if-line-run.runs.items (record { first = l.run.first; count = l.run.count + 1 }) c.if-line-run.run
          (ap (λ rs. rs.items) w.runs-is) w.run-is (joined-on places l.i l.runs.items l.run l.invariant place there is w.if-line-run.true)
      | else-line-run+in_ok-push w ↦
          same-joined places (l.i + 1) (l.runs.items ++ l.run ∷ []) c.if-line-run.runs.items (record { first = place; count = 1 }) c.if-line-run.run
          (ap (λ rs. rs.items) w.runs-is ∙ w.in_ok-push.ensures.items) w.run-is (joined-anew places l.i l.runs.items l.run l.invariant place there is)
    ]

pub returns-clause-apart : goal.returns-clause-apart
returns-clause-apart c =
    subst AreApart (sym c.in_ok-push-2.ensures.items) (joined-all c.args.lines.now c.loop-i.i c.loop-i.runs.items c.loop-i.run c.loop-i.invariant (omega (arith, c.loop-i-test.false))).0
