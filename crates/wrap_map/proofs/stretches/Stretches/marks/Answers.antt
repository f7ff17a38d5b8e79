use Rattle.std.proofs.Common.{◌≡◌, ℕ, ◌+◌, ◌-◌, ◌*◌, ◌≤◌, [], ◌∷◌, ◌++◌, List, Option, length, unwrap_or, ap, sym, subst, ◌∙◌, arith, append_assoc}
use Rattle.std.proofs.lemmas.List.{append-nil, length_push}
use Rattle.sum_tree.specs.Bounds.{way}
use Rattle.wrap_map.specs.Stood.{IsOtherIfAny, marks_in}
use Rattle.cell_line.specs.declared.lines.MarkRun.{MarkRun}
use Rattle.wrap_map.proofs.Runs.{IsTurn, no-turn, rest_of, turn}
use Rattle.wrap_map.proofs.Ticks.{one-turn}
use Rattle.wrap_map.proofs.stretches.Stretches.marks.Goals as goal
use Rattle.wrap_map.proofs.stretches.Stretches.marks.Goals.{After-unwrap_or-line}

next : (c : After-unwrap_or-line) → IsTurn c.args.self.now c.loop-first.line c.in-Some.first c.unwrap_or-line.result c.mark-width.result
next c =
    let ls = c.args.self.now in
    let o = c.next_other-in-Some.result in
    turn ls c.loop-first.line c.in-Some.first c.mark-width.result c.unwrap_or-line.result o c.in-Some.ensures.other c.mark-width.ensures.mark
    c.next_other-in-Some.ensures.other (c.unwrap_or-line.ensures ∙ ap (λ (n : ℕ). unwrap_or o n) c.lines-count.ensures)

pub loop-first-preserved : goal.loop-first-preserved
loop-first-preserved c =
    let ls = c.args.self.now in
    let t = next (goal.at.loop-first-preserved c).After-unwrap_or-line in
    let before = c.loop-first.invariant in
    let runs = c.loop-first.runs.items in
    let end = c.unwrap_or-line.result in
    let run : MarkRun = record { first = c.in-Some.first; last = end - 1; width = c.mark-width.result } in
    let pushed = c.in_ok-push.ensures.items in
    let count : length c.push.new.self.items ≡ length runs + 1 = ap length pushed ∙ length_push runs run in
    record {
      within = t.within;
      runs =
          ap (λ (l : List MarkRun). l ++ rest_of (marks_in ls) end) pushed
          ∙ append_assoc runs (run ∷ []) (rest_of (marks_in ls) end)
          ∙ ap (λ (l : List MarkRun). runs ++ l) (sym t.runs)
          ∙ before.runs;
      counted = omega (arith, before.counted, c.next_other.ensures.counted, c.mark-width.ensures.counted, c.next_other-in-Some.ensures.counted);
      ticks = λ h small.
          let first = c.next_other.ensures.steps h small in
          let second = c.mark-width.ensures.steps h small in
          let third = c.next_other-in-Some.ensures.steps h small in
          let more : c.next_other-in-Some.new.steps ≤ c.loop-first.steps + 5 * way h = omega arith in
          subst (λ (n : ℕ). c.next_other-in-Some.new.steps ≤ c.args.steps.now + 5 * n * way h) (sym count)
          (one-turn (length runs) (way h) c.args.steps.now c.loop-first.steps c.next_other-in-Some.new.steps (before.ticks h small) more);
    }

pub returns-clause-runs : goal.returns-clause-runs
returns-clause-runs c =
    let ls = c.args.self.now in
    let runs = c.loop-first.runs.items in
    let none = no-turn ls c.loop-first.line c.loop-first.invariant.within (subst (λ (o : Option ℕ). IsOtherIfAny ls c.loop-first.line 0 o) c.in_default.is c.next_other.ensures.other) in
    sym (append-nil runs) ∙ ap (λ (l : List MarkRun). runs ++ l) (sym none) ∙ c.loop-first.invariant.runs
