use Rattle.std.proofs.Common.{◌≡◌, ℕ, ◌+◌, ◌-◌, ◌<◌, ◌≤◌, List, Some, length, max, min, ap, sym, subst, ◌∙◌, arith}
use Rattle.std.specs.List.{slice_get}
use Rattle.std.proofs.lemmas.Option.{slice_get_within}
use Rattle.sum_tree.specs.Bounds.{TakesAtMost, way}
use Rattle.wrap_map.specs.Stood.{IsNextAt, Stood}
use Rattle.wrap_map.specs.declared.extent.Extent.{Extent}
use Rattle.wrap_map.specs.inside.Bounds.{each_way}
use Rattle.wrap_map.specs.inside.Extents.{joined_extents}
use Rattle.wrap_map.specs.inside.Stretches.{extent_of, spread}
use Rattle.wrap_map.proofs.Others.{IsAtSwitch, found-behind, from-within, next-end, next-here, next-is, next-none, passed-first, passed-on, switches_to}
use Rattle.wrap_map.proofs.Parts.{before-lines, found-none, found-some, lines-within, lines_to}
use Rattle.wrap_map.proofs.Spreads.{lines-rows}
use Rattle.wrap_map.proofs.Ticks.{by-lines, seeks-more, seeks-within}
use Rattle.wrap_map.proofs.stretches.Stretches.next_at.Goals as goal
use Rattle.wrap_map.proofs.stretches.Stretches.next_at.Goals.{After-find-found-in-Some, In-Some}

pub loop-found-init : goal.loop-found-init
loop-found-init c =
    let ss = c.self.inside.tree in
    record {
      item = c.find-found.ensures.item;
      before = c.find-found.ensures.before;
      passed = passed-first ss c.args.line c.args.width c.find-found.result.index c.find-found.ensures.first;
      counted = c.find-found.ensures.counted;
      steps = λ h small. seeks-more 0 (1 + (min (max (lines_to ss c.find-found.result.index) c.args.line) (c.args.end - 1) - c.args.line)) (way h)
          c.args.steps.now c.args.steps.now c.find-found.new.steps (omega arith) (c.find-found.ensures.steps h small) (omega arith);
    }

-- the stretch that was found
here : (c : In-Some) → slice_get c.self.inside.tree c.loop-found.found.index ≡ Some c.in-Some.stretch.now
here c = found-some c.self.inside.tree c.loop-found.found.index c.loop-found.found.item c.in-Some.stretch c.loop-found.invariant.item c.in-Some.is

start : (c : In-Some) → c.loop-found.found.before.lines ≡ lines_to c.self.inside.tree c.loop-found.found.index
start c = before-lines c.self.inside.tree c.loop-found.found.index c.loop-found.found.before c.loop-found.invariant.before

-- as many seeks as there are lines up to the end are enough
enough : (c : In-Some) → TakesAtMost (each_way (c.args.end - c.args.line)) (length c.args.self.now) c.args.steps.now c.loop-found.steps
enough c =
    let ss = c.self.inside.tree in
    let n = 1 + (min (max (lines_to ss c.loop-found.found.index) c.args.line) (c.args.end - 1) - c.args.line) in
    subst (λ (l : List Stood). TakesAtMost (each_way (c.args.end - c.args.line)) (length l) c.args.steps.now c.loop-found.steps) c.self.view_is
    (by-lines (each_way (c.args.end - c.args.line)) ss c.args.steps.now c.loop-found.steps c.self.invariant.0.each
    (λ h small. seeks-within n (c.args.end - c.args.line) (way h) c.args.steps.now c.loop-found.steps (omega (arith, c.requires.some)) (c.loop-found.invariant.steps h small)))

pub returns-then-mark-width-clause-at : goal.returns-then-mark-width-clause-at
returns-then-mark-width-clause-at c =
    let d = (goal.at.returns-then-mark-width-clause-at c).In-Some in
    let ss = c.self.inside.tree in
    let i = c.loop-found.found.index in
    let begins = start d in
    let at : c.min.result ≡ min (max (lines_to ss i) c.args.line) c.args.end = omega (arith, begins, c.min.ensures, c.max.ensures) in
    subst (λ (l : List Stood). IsNextAt l c.args.line c.args.end c.args.width c.min.result) c.self.view_is
    (subst (IsNextAt (spread ss) c.args.line c.args.end c.args.width) (sym at)
    (next-here ss c.args.line c.args.width i c.in-Some.stretch.now c.self.invariant.0.each (here d) c.loop-found.invariant.passed c.args.end c.requires.some
    (sym c.mark.ensures ∙ c.if-mark-width.true)))

pub returns-then-mark-width-clause-steps : goal.returns-then-mark-width-clause-steps
returns-then-mark-width-clause-steps c = enough (goal.at.returns-then-mark-width-clause-steps c).In-Some

pub overflow_add-found : goal.overflow_add-found
overflow_add-found c =
    let d = (goal.at.overflow_add-found c).In-Some in
    let ss = c.self.inside.tree in
    omega (arith, start d, c.lines.ensures.value, lines-within ss c.loop-found.found.index c.in-Some.stretch.now (here d), lines-rows (spread ss), c.self.invariant.0.rows_fit)

pub returns-then-found-lines-clause-at : goal.returns-then-found-lines-clause-at
returns-then-found-lines-clause-at c =
    let d = (goal.at.returns-then-found-lines-clause-at c).In-Some in
    let ss = c.self.inside.tree in
    subst (λ (l : List Stood). IsNextAt l c.args.line c.args.end c.args.width c.args.end) c.self.view_is
    (next-end ss c.args.line c.args.width c.loop-found.found.index c.in-Some.stretch.now c.self.invariant.0.each (here d) c.loop-found.invariant.passed c.args.end c.requires.some
    (λ is. c.if-mark-width.false (c.mark.ensures ∙ is)) (omega (arith, start d, c.lines.ensures.value, c.if-found-lines.true)))

pub returns-then-found-lines-clause-steps : goal.returns-then-found-lines-clause-steps
returns-then-found-lines-clause-steps c = enough (goal.at.returns-then-found-lines-clause-steps c).In-Some

at_switch : (c : After-find-found-in-Some) →
    IsAtSwitch c.self.inside.tree (switches_to c.self.inside.tree (c.loop-found.found.index + 1)) c.find-found-in-Some.result.index
at_switch c =
    let ss = c.self.inside.tree in
    let i = c.loop-found.found.index in
    let s = c.in-Some.stretch.now in
    let d = (goal.at-After-find-found-in-Some c).In-Some in
    let target : c.changes_through-changes.result ≡ switches_to ss (i + 1) =
    c.changes_through-changes.ensures
    ∙ ap (λ (t : Extent). (joined_extents t (extent_of s)).switches) c.loop-found.invariant.before
    ∙ sym (ap (λ (t : Extent). t.switches) (next-is ss i s (here d))) in
    subst (λ (n : ℕ). IsAtSwitch ss n c.find-found-in-Some.result.index) target c.find-found-in-Some.ensures.first

pub loop-found-smaller : goal.loop-found-smaller
loop-found-smaller c =
    let d = (goal.at.loop-found-smaller c).In-Some in
    let ss = c.self.inside.tree in
    let i = c.loop-found.found.index in
    let there = slice_get_within ss i c.in-Some.stretch.now (here d) in
    let behind = found-behind ss i c.find-found-in-Some.result.index c.in-Some.stretch.now (here d) (at_switch (goal.at.loop-found-smaller c).After-find-found-in-Some) in
    omega (arith, there, behind)

pub loop-found-preserved : goal.loop-found-preserved
loop-found-preserved c =
    let d = (goal.at.loop-found-preserved c).In-Some in
    let ss = c.self.inside.tree in
    let i = c.loop-found.found.index in
    let j = c.find-found-in-Some.result.index in
    let s = c.in-Some.stretch.now in
    let on = passed-on ss c.args.line c.args.width i s c.self.invariant.0.each (here d) c.loop-found.invariant.passed j
    (λ is. c.if-mark-width.false (c.mark.ensures ∙ is)) (at_switch (goal.at.loop-found-preserved c).After-find-found-in-Some) in
    let high = from-within ss c.args.line c.args.width i s c.self.invariant.0.each (here d) c.loop-found.invariant.passed in
    let less : max (lines_to ss i) c.args.line + 1 < c.args.end = omega (arith, high, start d, c.lines.ensures.value, c.if-found-lines.false) in
    record {
      item = c.find-found-in-Some.ensures.item;
      before = c.find-found-in-Some.ensures.before;
      passed = on.0;
      counted = omega (arith, c.loop-found.invariant.counted, c.find-found-in-Some.ensures.counted);
      steps = λ h small. seeks-more (1 + (min (max (lines_to ss i) c.args.line) (c.args.end - 1) - c.args.line))
          (1 + (min (max (lines_to ss j) c.args.line) (c.args.end - 1) - c.args.line)) (way h)
          c.args.steps.now c.loop-found.steps c.find-found-in-Some.new.steps
          (c.loop-found.invariant.steps h small) (c.find-found-in-Some.ensures.steps h small) (omega (arith, less, on.1));
    }

pub returns-clause-at : goal.returns-clause-at
returns-clause-at c =
    let ss = c.self.inside.tree in
    let i = c.loop-found.found.index in
    let e = found-none ss i c.loop-found.found.item c.loop-found.invariant.item c.in_default.is in
    subst (λ (l : List Stood). IsNextAt l c.args.line c.args.end c.args.width c.args.end) c.self.view_is
    (next-none ss c.args.line c.args.width i c.args.end c.loop-found.invariant.passed e c.requires.some
    (subst (λ (l : List Stood). c.args.end ≤ length l) (sym c.self.view_is) c.requires.within))

pub returns-clause-steps : goal.returns-clause-steps
returns-clause-steps c =
    let ss = c.self.inside.tree in
    let n = 1 + (min (max (lines_to ss c.loop-found.found.index) c.args.line) (c.args.end - 1) - c.args.line) in
    subst (λ (l : List Stood). TakesAtMost (each_way (c.args.end - c.args.line)) (length l) c.args.steps.now c.loop-found.steps) c.self.view_is
    (by-lines (each_way (c.args.end - c.args.line)) ss c.args.steps.now c.loop-found.steps c.self.invariant.0.each
    (λ h small. seeks-within n (c.args.end - c.args.line) (way h) c.args.steps.now c.loop-found.steps (omega (arith, c.requires.some)) (c.loop-found.invariant.steps h small)))
