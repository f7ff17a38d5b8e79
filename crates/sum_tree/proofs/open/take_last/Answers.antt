use Rattle.std.proofs.Common.{map}
use Rattle.sum_core.specs.Nodes.{entries_of, child_value}
use Rattle.sum_core.proofs.Children.{values-append}
use Rattle.sum_tree.proofs.Pieces.{parted-last}
use Rattle.sum_tree.proofs.open.take_last.Goals as goal

pub returns-clause-parted : goal.returns-clause-parted
returns-clause-parted g c =
    let m = g.T.Sum.Summary in
    parted-last m.empty m.joined g.T.Item.summary c.args.height (entries_of c.args.node.now) (map child_value c.in_ok-rest.rest.items) _ (child_value c.in-Some.child) c.in_ok-rest.ensures.opened
    (values-append c.in_ok-rest.rest.items c.pop.new.self.items _ c.in-Some.ensures.items)
