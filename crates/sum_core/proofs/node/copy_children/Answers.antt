use Rattle.sum_core.proofs.Lists.{map_more}
use Rattle.sum_core.proofs.ChildValues.{value-copy}
use Rattle.sum_core.specs.Nodes.{child_value}
use Rattle.sum_core.proofs.node.copy_children.Goals as goal

pub loop-child-preserved : goal.loop-child-preserved
loop-child-preserved g c =
    rw c.in_ok-push.ensures.items (map_more child_value _ _ _ c.child-item.result _ c.loop-child-test.true c.loop-child.invariant c.child-item.is
    (value-copy c.child-item.result c.in_ok-share.field-0 c.in_ok-share.ensures))
