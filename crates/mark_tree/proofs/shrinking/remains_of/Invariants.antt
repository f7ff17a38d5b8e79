use Rattle.std.proofs.Common.{◌≡◌, ◌<◌, ◌^◌, ◌++◌}
use Rattle.std.specs.List.{All}
use Rattle.std.specs.Vec.Iter.{into_iter_items}
use Rattle.mark_tree.specs.Entries.{end_at}
use Rattle.mark_tree.specs.RangeViews.{IsFittingMoved, all_left_over, emptied_ids}
use Rattle.mark_tree.proofs.shrinking.remains_of.Given as goal

abbrev pub invariant-loop-range : goal.invariant-loop-range
invariant-loop-range g l = record {
  left : all_left_over l.shift l.fn.ranges.items ≡ l.remains.ranges.items ++ all_left_over l.shift (into_iter_items l.range-iterator);
  gone : emptied_ids l.shift l.fn.ranges.items ≡ l.remains.dropped.items ++ emptied_ids l.shift (into_iter_items l.range-iterator);
  ends : All (λ p. end_at p < 2 ^ 32) (into_iter_items l.range-iterator);
  fits : All (IsFittingMoved l.shift) (into_iter_items l.range-iterator);
}
