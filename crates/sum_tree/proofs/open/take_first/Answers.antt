use Rattle.std.proofs.Common.{◌<◌, ap, arith, map, length}
use Rattle.sum_core.specs.Nodes.{entries_of, child_value}
use Rattle.sum_core.proofs.Children.{first-out}
use Rattle.sum_tree.proofs.Pieces.{parted-first}
use Rattle.sum_tree.proofs.open.take_first.Goals as goal

pub returns-clause-parted : goal.returns-clause-parted
returns-clause-parted g c =
    let m = g.T.Sum.Summary in
    let o = c.in_ok-rest.ensures.opened in
    let xs = c.in_ok-rest.rest.items in
    let lt : 0 < length xs = omega (arith, c.remove-child.ensures.len) in
    parted-first m.empty m.joined g.T.Item.summary c.args.height (entries_of c.args.node.now) (map child_value xs) _ (child_value c.remove-child.result) o
    (ap (map child_value) (first-out xs c.remove-child.new.self.items _ lt c.remove-child.ensures.value c.remove-child.ensures.items))
