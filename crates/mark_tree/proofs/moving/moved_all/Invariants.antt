use Rattle.std.proofs.Common.{◌≡◌, ◌<◌, ◌^◌, ◌++◌, map}
use Rattle.std.specs.List.{All}
use Rattle.std.specs.Vec.Iter.{into_iter_items}
use Rattle.mark_tree.specs.Entries.{end_at}
use Rattle.mark_tree.specs.Order.{move_placed}
use Rattle.mark_tree.proofs.moving.moved_all.Given as goal

abbrev pub invariant-loop-thing : goal.invariant-loop-thing
invariant-loop-thing g l = record {
  rest : map (move_placed l.shift) l.fn.things.items ≡ l.moved.items ++ map (move_placed l.shift) (into_iter_items l.thing-iterator);
  fits : All (λ p. end_at p < 2 ^ 32) (map (move_placed l.shift) (into_iter_items l.thing-iterator));
}
