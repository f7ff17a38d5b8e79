use Rattle.std.proofs.Common.{◌≡◌, ◌+◌, ℕ, List, None, Some, length, ap, sym, subst, ◌∙◌}
use Rattle.std.specs.List.{slice_get}
use Rattle.sum_tree.specs.Bounds.{TakesAtMost}
use Rattle.wrap_map.specs.Stood.{IsOther, IsOtherIfAny, Stood}
use Rattle.wrap_map.specs.declared.extent.Extent.{Extent}
use Rattle.wrap_map.specs.inside.Bounds.{two_ways}
use Rattle.wrap_map.specs.inside.Extents.{joined_extents}
use Rattle.wrap_map.specs.inside.Stretches.{extent_of, spread}
use Rattle.wrap_map.proofs.Others.{IsAtSwitch, next-is, none-other, none-past, other-behind, other-here, switches_to}
use Rattle.wrap_map.proofs.Parts.{before-lines, found-none, found-some}
use Rattle.wrap_map.proofs.Ticks.{one-seek, two-seeks}
use Rattle.wrap_map.proofs.stretches.Stretches.next_other.Goals as goal
use Rattle.wrap_map.proofs.stretches.Stretches.next_other.Goals.{After-find-other}

pub returns-in_default-clause-other : goal.returns-in_default-clause-other
returns-in_default-clause-other c =
    let ss = c.self.inside.tree in
    let f = c.find-found.result in
    let e = found-none ss f.index f.item c.find-found.ensures.item c.in_default.is in
    subst (λ (l : List Stood). IsOtherIfAny l c.args.line c.args.width None) c.self.view_is
    (none-past ss c.args.line c.args.width f.index e c.find-found.ensures.first)

pub returns-then-mark-width-clause-other : goal.returns-then-mark-width-clause-other
returns-then-mark-width-clause-other c =
    let ss = c.self.inside.tree in
    let f = c.find-found.result in
    let s = c.in-Some.stretch.now in
    let e = found-some ss f.index f.item c.in-Some.stretch c.find-found.ensures.item c.in-Some.is in
    subst (λ (l : List Stood). IsOther l c.args.line c.args.width c.args.line) c.self.view_is
    (other-here ss c.args.line c.args.width f.index s e c.find-found.ensures.first (λ is. c.if-mark-width.true (c.mark.ensures ∙ is)))

here : (c : After-find-other) → slice_get c.self.inside.tree c.find-found.result.index ≡ Some c.in-Some.stretch.now
here c =
    let f = c.find-found.result in
    found-some c.self.inside.tree f.index f.item c.in-Some.stretch c.find-found.ensures.item c.in-Some.is

at_switch : (c : After-find-other) → IsAtSwitch c.self.inside.tree (switches_to c.self.inside.tree (c.find-found.result.index + 1)) c.find-other.result.index
at_switch c =
    let ss = c.self.inside.tree in
    let f = c.find-found.result in
    let s = c.in-Some.stretch.now in
    let target : c.changes_through-changes.result ≡ switches_to ss (f.index + 1) =
    c.changes_through-changes.ensures
    ∙ ap (λ (t : Extent). (joined_extents t (extent_of s)).switches) c.find-found.ensures.before
    ∙ sym (ap (λ (t : Extent). t.switches) (next-is ss f.index s (here c))) in
    subst (λ (n : ℕ). IsAtSwitch ss n c.find-other.result.index) target c.find-other.ensures.first

pub returns-in-Some-item-clause-other : goal.returns-in-Some-item-clause-other
returns-in-Some-item-clause-other c =
    let d = (goal.at.returns-in-Some-item-clause-other c).After-find-other in
    let ss = c.self.inside.tree in
    let f = c.find-found.result in
    let g = c.find-other.result in
    let t = c.in-Some-item.field-0 in
    let e = found-some ss g.index g.item t c.find-other.ensures.item c.in-Some-item.is in
    let other = other-behind ss c.args.line c.args.width f.index c.in-Some.stretch.now (here d) c.find-found.ensures.first g.index t.now c.self.invariant.0.each
    (sym c.mark.ensures ∙ c.if-mark-width.false) (at_switch d) e in
    subst (λ (l : List Stood). IsOther l c.args.line c.args.width g.before.lines) c.self.view_is
    (subst (λ (n : ℕ). IsOther (spread ss) c.args.line c.args.width n) (sym (before-lines ss g.index g.before c.find-other.ensures.before)) other)

pub returns-in-None-clause-other : goal.returns-in-None-clause-other
returns-in-None-clause-other c =
    let d = (goal.at.returns-in-None-clause-other c).After-find-other in
    let ss = c.self.inside.tree in
    let f = c.find-found.result in
    let g = c.find-other.result in
    let e = found-none ss g.index g.item c.find-other.ensures.item c.in-None.is in
    subst (λ (l : List Stood). IsOtherIfAny l c.args.line c.args.width None) c.self.view_is
    (none-other ss c.args.line c.args.width f.index c.in-Some.stretch.now (here d) c.find-found.ensures.first g.index (sym c.mark.ensures ∙ c.if-mark-width.false) (at_switch d) e)

pub returns-in_default-clause-steps : goal.returns-in_default-clause-steps
returns-in_default-clause-steps c =
    subst (λ (l : List Stood). TakesAtMost two_ways (length l) c.args.steps.now c.find-found.new.steps) c.self.view_is
    (one-seek c.self.inside.tree c.args.steps.now c.find-found.new.steps c.self.invariant.0.each c.find-found.ensures.steps)

pub returns-then-mark-width-clause-steps : goal.returns-then-mark-width-clause-steps
returns-then-mark-width-clause-steps c =
    subst (λ (l : List Stood). TakesAtMost two_ways (length l) c.args.steps.now c.find-found.new.steps) c.self.view_is
    (one-seek c.self.inside.tree c.args.steps.now c.find-found.new.steps c.self.invariant.0.each c.find-found.ensures.steps)

both : (c : After-find-other) → TakesAtMost two_ways (length c.args.self.now) c.args.steps.now c.find-other.new.steps
both c =
    subst (λ (l : List Stood). TakesAtMost two_ways (length l) c.args.steps.now c.find-other.new.steps) c.self.view_is
    (two-seeks c.self.inside.tree c.args.steps.now c.find-found.new.steps c.find-other.new.steps c.self.invariant.0.each c.find-found.ensures.steps c.find-other.ensures.steps)

pub returns-in-Some-item-clause-steps : goal.returns-in-Some-item-clause-steps
returns-in-Some-item-clause-steps c = both (goal.at.returns-in-Some-item-clause-steps c).After-find-other

pub returns-in-None-clause-steps : goal.returns-in-None-clause-steps
returns-in-None-clause-steps c = both (goal.at.returns-in-None-clause-steps c).After-find-other
