use Rattle.std.proofs.Common.{◌≡◌, take, map}
use Rattle.sum_core.specs.Nodes.{child_value}
use Rattle.sum_core.proofs.node.copy_children.Given as goal

abbrev pub invariant-loop-child : goal.invariant-loop-child
invariant-loop-child g l = map child_value l.copies.items ≡ map child_value (take l.child-index l.children)
