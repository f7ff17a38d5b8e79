use Rattle.std.proofs.Common.{◌<◌, ◌^◌, ◌*◌, ◌+◌, ap, subst, arith, length}
use Rattle.sum_core.specs.Nodes.{entries_of, items_of}
use Rattle.sum_core.proofs.Heights.{low-at, low-root, at-most}
use Rattle.sum_tree.specs.inside.Trees.{IsHeld, items_held}
use Rattle.sum_tree.proofs.sum_tree.SumTree.height.Goals as goal

pub overflow_cast-result : goal.overflow_cast-result
overflow_cast-result g c =
    let m = g.T.Sum.Summary in
    let held = subst (IsHeld m.empty m.joined g.T.Item.summary m.fits) c.in-Some.is c.self.invariant in
    omega (arith, low-root m.empty m.joined g.T.Item.summary c.in-Some.tree.height (entries_of c.in-Some.tree.node) held.tree.root held.small)

pub returns-in-Some-clause-low : goal.returns-in-Some-clause-low
returns-in-Some-clause-low g c h few =
    let m = g.T.Sum.Summary in
    let held = subst (IsHeld m.empty m.joined g.T.Item.summary m.fits) c.in-Some.is c.self.invariant in
    let few' : length (items_of c.in-Some.tree.node) < 2 * 6 ^ (h + 1) = omega (arith, few, ap length c.self.view_is, ap (λ o. length (items_held o)) c.in-Some.is) in
    omega (arith, low-at m.empty m.joined g.T.Item.summary c.in-Some.tree.height (entries_of c.in-Some.tree.node) h held.tree.root few')

pub returns-in-Some-clause-enough : goal.returns-in-Some-clause-enough
returns-in-Some-clause-enough g c =
    let m = g.T.Sum.Summary in
    let held = subst (IsHeld m.empty m.joined g.T.Item.summary m.fits) c.in-Some.is c.self.invariant in
    omega (arith, at-most m.empty m.joined g.T.Item.summary c.in-Some.tree.height (entries_of c.in-Some.tree.node) held.tree.root.lawful, ap length c.self.view_is, ap (λ o. length (items_held o)) c.in-Some.is)
