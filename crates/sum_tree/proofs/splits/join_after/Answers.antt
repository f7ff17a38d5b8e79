use Rattle.std.proofs.Common.{◌++◌, ◌<◌, ◌^◌, ap, sym, subst, refl, map, length, arith, le_trans}
use Rattle.sum_core.specs.Sums.{total}
use Rattle.sum_core.specs.Nodes.{child_value, items_under, items_of}
use Rattle.sum_core.proofs.Children.{fits-right}
use Rattle.sum_core.proofs.Levels.{if_ok}
use Rattle.sum_tree.specs.inside.Trees.{IsTreeOf}
use Rattle.sum_tree.proofs.splits.join_after.Goals as goal

pub raise-requires-clause-fits : goal.raise-requires-clause-fits
raise-requires-clause-fits g c =
    let m = g.T.Sum.Summary in
    fits-right m.empty m.joined m.fits g.T.Item.summary g.met.T.Sum.Summary.laws _ (items_of c.args.tree.node) (items_under (map child_value c.args.children.items)) refl c.requires.fits

pub returns-in_err-right-clause-steps : goal.returns-in_err-right-clause-steps
returns-in_err-right-clause-steps g c = omega (arith, c.in_err-right.ensures.steps)

pub returns-in_ok-right-clause-counted : goal.returns-in_ok-right-clause-counted
returns-in_ok-right-clause-counted g c = le_trans c.in_ok-right.ensures.counted c.join.ensures.counted

pub returns-in_ok-right-clause-steps : goal.returns-in_ok-right-clause-steps
returns-in_ok-right-clause-steps g c = omega (arith, c.in_ok-right.ensures.steps, c.join.ensures.steps)

pub join-requires-clause-right : goal.join-requires-clause-right
join-requires-clause-right g c = c.in_ok-right.ensures.raised.tree

pub join-requires-clause-fits : goal.join-requires-clause-fits
join-requires-clause-fits g c =
    let m = g.T.Sum.Summary in
    subst (λ l. m.fits (total m.empty m.joined g.T.Item.summary (items_of c.args.tree.node ++ l))) (sym c.in_ok-right.ensures.raised.items_is) c.requires.fits

pub join-requires-clause-small : goal.join-requires-clause-small
join-requires-clause-small g c =
    subst (λ l. length (items_of c.args.tree.node ++ l) < 2 ^ 32) (sym c.in_ok-right.ensures.raised.items_is) c.requires.small

pub returns-in_ok-right-clause-put : goal.returns-in_ok-right-clause-put
returns-in_ok-right-clause-put g c =
    let m = g.T.Sum.Summary in
    if_ok c.join.result _ _
    (λ t o. subst (IsTreeOf m.empty m.joined g.T.Item.summary t) (ap (λ l. items_of c.args.tree.node ++ l) c.in_ok-right.ensures.raised.items_is) o)
    c.join.ensures.joined
