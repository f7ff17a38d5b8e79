use Rattle.std.proofs.Common.{◌*◌, ◌^◌, ◌+◌, ◌<◌, ap, arith, length, le-add_right}
use Rattle.sum_tree.specs.inside.Paths.{items_seen}
use Rattle.sum_tree.proofs.PlaceLists.{seen-at}
use Rattle.sum_tree.proofs.cursor.Cursor.prev.Goals as goal

pub returns-else-self-le1-clause-steps : goal.returns-else-self-le1-clause-steps
returns-else-self-le1-clause-steps g c h few =
    let m = g.T.Sum.Summary in
    let few' : length (items_seen c.self.inside.path.root) < 2 * 6 ^ (h + 1) = omega (arith, few, ap (λ s. length s.items) c.self.view_is) in
    omega (arith, c.find-found.ensures.steps, seen-at m.empty m.joined g.T.Item.summary c.self.inside.path.root h c.self.invariant.path_is.tree few')

pub returns-else-self-le1-clause-counted : goal.returns-else-self-le1-clause-counted
returns-else-self-le1-clause-counted g c = c.find-found.ensures.counted

pub returns-then-self-le1-clause-steps : goal.returns-then-self-le1-clause-steps
returns-then-self-le1-clause-steps g c h few = le-add_right _ _
