use Rattle.std.proofs.Common.{◌≡◌, ◌+◌, ◌-◌, ◌≤◌, List, length, take, ap, sym, subst, ◌∙◌, arith}
use Rattle.sum_tree.specs.Bounds.{TakesAtMost, way}
use Rattle.wrap_map.specs.Stood.{Stood, rows_in}
use Rattle.wrap_map.specs.inside.Stretches.{spread}
use Rattle.wrap_map.proofs.Parts.{before-lines, before-rows, rows-found, rows-part}
use Rattle.wrap_map.proofs.Ticks.{by-lines}
use Rattle.wrap_map.proofs.stretches.Stretches.rows_before.Goals as goal
use Rattle.wrap_map.proofs.stretches.Stretches.rows_before.Goals.{After-find-found}

rows : (c : After-find-found) → c.find-found.result.before.rows + (c.args.line - c.find-found.result.before.lines) ≡ rows_in (take c.args.line (spread c.self.inside.tree))
rows c =
    let ss = c.self.inside.tree in
    let f = c.find-found.result in
    let within = subst (λ (l : List Stood). c.args.line ≤ length l) (sym c.self.view_is) c.requires in
    let is = rows-found ss c.args.line f.index f.item c.self.invariant.0.each c.find-found.ensures.first within c.find-found.ensures.item in
    omega (arith, is, before-lines ss f.index f.before c.find-found.ensures.before, before-rows ss f.index f.before c.self.invariant.0.each c.find-found.ensures.before)

pub overflow_add-result : goal.overflow_add-result
overflow_add-result c =
    let ss = c.self.inside.tree in
    omega (arith, rows (goal.at.overflow_add-result c).After-find-found, rows-part (spread ss) c.args.line, c.self.invariant.0.rows_fit)

pub returns-clause-rows : goal.returns-clause-rows
returns-clause-rows c = rows (goal.at.returns-clause-rows c).After-find-found ∙ ap (λ (l : List Stood). rows_in (take c.args.line l)) c.self.view_is

pub returns-clause-steps : goal.returns-clause-steps
returns-clause-steps c =
    subst (λ (l : List Stood). TakesAtMost way (length l) c.args.steps.now c.find-found.new.steps) c.self.view_is
    (by-lines way c.self.inside.tree c.args.steps.now c.find-found.new.steps c.self.invariant.0.each c.find-found.ensures.steps)
