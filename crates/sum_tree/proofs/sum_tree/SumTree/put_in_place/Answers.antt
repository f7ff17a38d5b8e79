use Rattle.std.proofs.Common.{◌<◌, ◌^◌, ◌*◌, ◌+◌, subst, arith, ap, length}
use Rattle.sum_core.specs.Nodes.{entries_of, items_of}
use Rattle.sum_core.proofs.Heights.{low-at, low-root}
use Rattle.sum_tree.specs.inside.Trees.{IsHeld, items_held}
use Rattle.sum_tree.proofs.Puts.{in-vain-then}
use Rattle.sum_tree.proofs.sum_tree.SumTree.put_in_place.Goals as goal

pub returns-clause-few : goal.returns-clause-few
returns-clause-few g c =
    let m = g.T.Sum.Summary in
    let held = subst (IsHeld m.empty m.joined g.T.Item.summary m.fits) c.in-Some.is c.self.invariant in
    omega (arith, low-root m.empty m.joined g.T.Item.summary c.in-Some.tree.height (entries_of c.in-Some.tree.node) held.tree.root held.small, c.put_in_tree.ensures.steps)

pub returns-clause-steps : goal.returns-clause-steps
returns-clause-steps g c h few =
    let m = g.T.Sum.Summary in
    let is = c.in-Some.is in
    let held = subst (IsHeld m.empty m.joined g.T.Item.summary m.fits) is c.self.invariant in
    let few' : length (items_of c.in-Some.tree.node) < 2 * 6 ^ (h + 1) = omega (arith, few, ap length c.self.view_is, ap (λ o. length (items_held o)) is) in
    let low = low-at m.empty m.joined g.T.Item.summary c.in-Some.tree.height (entries_of c.in-Some.tree.node) h held.tree.root few' in
    omega (arith, low, c.put_in_tree.ensures.steps)

pub returns-clause-few_in_vain : goal.returns-clause-few_in_vain
returns-clause-few_in_vain g c =
    let m = g.T.Sum.Summary in
    let held = subst (IsHeld m.empty m.joined g.T.Item.summary m.fits) c.in-Some.is c.self.invariant in
    let low = low-root m.empty m.joined g.T.Item.summary c.in-Some.tree.height (entries_of c.in-Some.tree.node) held.tree.root held.small in
    in-vain-then c.put_in_tree.result (λ few. omega (arith, low, few)) c.put_in_tree.ensures.in_vain

pub returns-clause-in_vain : goal.returns-clause-in_vain
returns-clause-in_vain g c =
    let m = g.T.Sum.Summary in
    let is = c.in-Some.is in
    let held = subst (IsHeld m.empty m.joined g.T.Item.summary m.fits) is c.self.invariant in
    let whole = ap length c.self.view_is in
    let seen = ap (λ o. length (items_held o)) is in
    in-vain-then c.put_in_tree.result
    (λ opened h few.
    let few' : length (items_of c.in-Some.tree.node) < 2 * 6 ^ (h + 1) = omega (arith, few, whole, seen) in
    omega (arith, low-at m.empty m.joined g.T.Item.summary c.in-Some.tree.height (entries_of c.in-Some.tree.node) h held.tree.root few', opened))
    c.put_in_tree.ensures.in_vain
