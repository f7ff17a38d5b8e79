use Rattle.std.proofs.Common.{◌∙◌, subst, sym, arith}
use Rattle.cell_units.specs.Text.{IsBoundary}
use Rattle.fold_map.specs.Replaced.{shown_change}
use Rattle.fold_map.proofs.StateFolds.{from-first, to-last}
use Rattle.fold_map.proofs.snapshot.FoldSnapshot.fold_change.Goals as goal

pub change_to-requires-clause-start : goal.change_to-requires-clause-start
change_to-requires-clause-start g c κs h =
    let s = c.args.self.now in
    subst (IsBoundary s.text) (sym c.shown_from-first.ensures.from) (from-first s c.args.range.start c.text_len-len.ensures.lawful.formed.text.0 c.requires.start).0

pub change_to-requires-clause-end : goal.change_to-requires-clause-end
change_to-requires-clause-end g c κs h =
    let s = c.args.self.now in
    subst (IsBoundary s.text) (sym c.shown_to-last.ensures.to) (to-last s c.args.range.end c.text_len-len.ensures.lawful.formed.text.0 c.requires.end).0

pub change_to-requires-clause-order : goal.change_to-requires-clause-order
change_to-requires-clause-order g c κs h =
    let s = c.args.self.now in
    let order = c.requires.order in
    let utf8 = c.text_len-len.ensures.lawful.formed.text.0 in
    omega (arith, order, c.shown_from-first.ensures.from, c.shown_to-last.ensures.to, (from-first s c.args.range.start utf8 c.requires.start).1, (to-last s c.args.range.end utf8 c.requires.end).1)

pub returns-clause-change : goal.returns-clause-change
returns-clause-change g c =
    c.change_to.ensures.change
    ∙ (λ i. shown_change c.args.self.now c.args.next.now (c.shown_from-first.ensures.from i) (c.shown_to-last.ensures.to i))

pub returns-clause-steps : goal.returns-clause-steps
returns-clause-steps g c h lt lt' =
    omega (arith, c.shown_from-first.ensures.steps h lt, c.shown_to-last.ensures.steps h lt, c.change_to.ensures.steps h lt lt')
