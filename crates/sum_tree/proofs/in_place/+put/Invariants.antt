use Rattle.std.proofs.Common.{◌+◌, ◌*◌}
use Rattle.sum_tree.proofs.in_place.+put.Given as goal

abbrev pub decreases-put_in_node : goal.decreases-put_in_node
decreases-put_in_node g l = 5 * l.height + 4

abbrev pub decreases-put_in_entries : goal.decreases-put_in_entries
decreases-put_in_entries g l = 5 * l.height + 3

abbrev pub decreases-put_in_children : goal.decreases-put_in_children
decreases-put_in_children g l = 5 * l.height + 2

abbrev pub decreases-put_in_child : goal.decreases-put_in_child
decreases-put_in_child g l = 5 * l.below + 5

abbrev pub decreases-put_below : goal.decreases-put_below
decreases-put_below g l = 5 * l.below + 6
