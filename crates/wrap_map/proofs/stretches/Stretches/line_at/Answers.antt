use Rattle.std.proofs.Common.{◌≡◌, ◌+◌, ◌-◌, ◌<◌, ℕ, List, length, min, ap, sym, subst, ◌∙◌, arith}
use Rattle.sum_tree.specs.Bounds.{TakesAtMost, way}
use Rattle.wrap_map.specs.Stood.{Stood, rows_in}
use Rattle.wrap_map.specs.inside.Stretches.{spread}
use Rattle.wrap_map.proofs.Parts.{IsLineOf, before-lines, before-rows, found-none, found-some, line-of, row-not-past, rows_to}
use Rattle.wrap_map.proofs.Spreads.{lines-rows}
use Rattle.wrap_map.proofs.Ticks.{by-lines}
use Rattle.wrap_map.proofs.stretches.Stretches.line_at.Goals as goal
use Rattle.wrap_map.proofs.stretches.Stretches.line_at.Goals.{After-min}

pub unreachable-requires : goal.unreachable-requires
unreachable-requires c =
    let ss = c.self.inside.tree in
    let f = c.find-found.result in
    let within = subst (λ (l : List Stood). c.args.row < rows_in l) (sym c.self.view_is) c.requires in
    row-not-past ss c.args.row f.index c.self.invariant.0.each c.find-found.ensures.first within (found-none ss f.index f.item c.find-found.ensures.item c.in_default.is)

line : (c : After-min) → IsLineOf (spread c.self.inside.tree) c.args.row (c.find-found.result.before.lines + c.min.result)
line c =
    let ss = c.self.inside.tree in
    let f = c.find-found.result in
    let s = c.in-Some.stretch.now in
    let e = found-some ss f.index f.item c.in-Some.stretch c.find-found.ensures.item c.in-Some.is in
    let k : c.min.result ≡ min (c.args.row - rows_to ss f.index) (s.lines - 1) =
    c.min.ensures
    ∙ ap (λ (r : ℕ). min (c.args.row - r) (c.lines.result - 1)) (before-rows ss f.index f.before c.self.invariant.0.each c.find-found.ensures.before)
    ∙ ap (λ (n : ℕ). min (c.args.row - rows_to ss f.index) (n - 1)) c.lines.ensures.value in
    subst (λ (n : ℕ). IsLineOf (spread ss) c.args.row (n + c.min.result)) (sym (before-lines ss f.index f.before c.find-found.ensures.before))
    (line-of ss c.args.row f.index c.min.result s c.self.invariant.0.each c.find-found.ensures.first e k)

shown : (c : After-min) → IsLineOf c.args.self.now c.args.row (c.find-found.result.before.lines + c.min.result)
shown c = subst (λ (l : List Stood). IsLineOf l c.args.row (c.find-found.result.before.lines + c.min.result)) c.self.view_is (line c)

pub overflow_add-result : goal.overflow_add-result
overflow_add-result c =
    let ss = c.self.inside.tree in
    let within = (line (goal.at.overflow_add-result c).After-min).within in
    omega (arith, within, lines-rows (spread ss), c.self.invariant.0.rows_fit)

pub returns-clause-within : goal.returns-clause-within
returns-clause-within c = (shown (goal.at.returns-clause-within c).After-min).within

pub returns-clause-begun : goal.returns-clause-begun
returns-clause-begun c = (shown (goal.at.returns-clause-begun c).After-min).begun

pub returns-clause-ends : goal.returns-clause-ends
returns-clause-ends c = (shown (goal.at.returns-clause-ends c).After-min).ends

pub returns-clause-steps : goal.returns-clause-steps
returns-clause-steps c =
    subst (λ (l : List Stood). TakesAtMost way (length l) c.args.steps.now c.find-found.new.steps) c.self.view_is
    (by-lines way c.self.inside.tree c.args.steps.now c.find-found.new.steps c.self.invariant.0.each c.find-found.ensures.steps)
