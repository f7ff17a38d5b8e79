use Rattle.std.proofs.Common.{◌*◌, ◌^◌, ◌+◌, ◌<◌, ap, arith, length}
use Rattle.sum_tree.specs.inside.Paths.{items_seen}
use Rattle.sum_tree.proofs.PlaceLists.{seen-at}
use Rattle.sum_tree.proofs.sum_tree.SumTree.find.Goals as goal

pub returns-clause-steps : goal.returns-clause-steps
returns-clause-steps g c h few =
    let m = g.T.Sum.Summary in
    let few' : length (items_seen c.path.result.root) < 2 * 6 ^ (h + 1) = omega (arith, few, ap length c.path.ensures.items) in
    omega (arith, c.find_by.ensures.steps, seen-at m.empty m.joined g.T.Item.summary c.path.result.root h c.path.ensures.path.tree few')
