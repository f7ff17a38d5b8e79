use Rattle.std.proofs.Common.{◌≡◌, ◌++◌}
use Rattle.std.specs.Vec.Iter.{into_iter_items}
use Rattle.mark_tree.specs.Entries.{IsSpaced, coded}
use Rattle.mark_tree.proofs.spaced.code_gaps.Given as goal

abbrev pub invariant-loop-thing : goal.invariant-loop-thing
invariant-loop-thing g l = record {
  rest : coded l.fn.base l.fn.placed.items ≡ l.entries.items ++ coded l.last (into_iter_items l.thing-iterator);
  spaced : IsSpaced l.last (into_iter_items l.thing-iterator);
}
