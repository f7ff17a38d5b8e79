use Rattle.std.proofs.Common.{◌∙◌, arith, le_trans}
use Rattle.sum_core.specs.Nodes.{entries_of}
use Rattle.sum_core.proofs.Levels.{items-leaf}
use Rattle.sum_core.proofs.Children.{cut, fits-left, fits-right}
use Rattle.sum_tree.proofs.splits.split_leaf.Goals as goal

pub make_leaf-requires-clause-fits : goal.make_leaf-requires-clause-fits
make_leaf-requires-clause-fits g c =
    let m = g.T.Sum.Summary in
    let e = items-leaf (entries_of c.args.node.now) c.in_ok-items.items.items c.in_ok-items.ensures.opened ∙ cut c.args.at c.in_ok-items.items.items c.split_off.new.self.items c.in_ok-rest.rest.items c.in_ok-rest.ensures.items c.in_ok-rest.ensures.tail in
    fits-left m.empty m.joined m.fits g.T.Item.summary g.met.T.Sum.Summary.laws _ c.split_off.new.self.items c.in_ok-rest.rest.items e c.requires.fits

pub make_leaf-requires-2-clause-fits : goal.make_leaf-requires-2-clause-fits
make_leaf-requires-2-clause-fits g c =
    let m = g.T.Sum.Summary in
    let e = items-leaf (entries_of c.args.node.now) c.in_ok-items.items.items c.in_ok-items.ensures.opened ∙ cut c.args.at c.in_ok-items.items.items c.split_off.new.self.items c.in_ok-rest.rest.items c.in_ok-rest.ensures.items c.in_ok-rest.ensures.tail in
    fits-right m.empty m.joined m.fits g.T.Item.summary g.met.T.Sum.Summary.laws _ c.split_off.new.self.items c.in_ok-rest.rest.items e c.requires.fits

pub returns-in_err-left-clause-counted : goal.returns-in_err-left-clause-counted
returns-in_err-left-clause-counted g c = le_trans c.in_ok-items.ensures.counted c.in_err-left.ensures.counted

pub returns-in_err-left-clause-steps : goal.returns-in_err-left-clause-steps
returns-in_err-left-clause-steps g c = omega (arith, c.in_ok-items.ensures.steps, c.in_err-left.ensures.steps)

pub returns-in_err-right-clause-counted : goal.returns-in_err-right-clause-counted
returns-in_err-right-clause-counted g c =
    le_trans c.in_ok-items.ensures.counted (le_trans c.in_ok-left.ensures.counted c.in_err-right.ensures.counted)

pub returns-in_err-right-clause-steps : goal.returns-in_err-right-clause-steps
returns-in_err-right-clause-steps g c = omega (arith, c.in_ok-items.ensures.steps, c.in_ok-left.ensures.steps, c.in_err-right.ensures.steps)

pub returns-clause-counted : goal.returns-clause-counted
returns-clause-counted g c =
    le_trans c.in_ok-items.ensures.counted (le_trans c.in_ok-left.ensures.counted c.in_ok-right.ensures.counted)

pub returns-clause-steps : goal.returns-clause-steps
returns-clause-steps g c = omega (arith, c.in_ok-items.ensures.steps, c.in_ok-left.ensures.steps, c.in_ok-right.ensures.steps)
