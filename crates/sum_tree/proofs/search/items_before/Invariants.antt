use Rattle.std.proofs.Common.{◌≤◌}
use Rattle.std.specs.List.{position_or_len}
use Rattle.sum_tree.proofs.search.items_before.Given as goal

abbrev pub invariant-loop-index : goal.invariant-loop-index
invariant-loop-index g l = record { none : l.index ≤ position_or_len (g.Q.Probe.is_passed l.probe) l.items }
