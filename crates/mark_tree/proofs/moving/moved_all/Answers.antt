use Rattle.std.proofs.Common.{◌≡◌, ◌<◌, ◌^◌, ◌++◌, ◌∷◌, [], ◌∙◌, ap, sym, subst, map, append_assoc, arith}
use Rattle.std.specs.List.{All}
use Rattle.std.specs.Vec.Iter.{into_iter_items}
use Rattle.std.proofs.lemmas.List.Elements.{All-head, All-tail}
use Rattle.mark_tree.specs.declared.entry.Placed.{Placed}
use Rattle.mark_tree.specs.Entries.{end_at}
use Rattle.mark_tree.specs.Order.{move_placed}
use Rattle.mark_tree.proofs.moving.moved_all.Goals as goal

pub moved_offset-requires : goal.moved_offset-requires
moved_offset-requires g c =
    let rest = into_iter_items c.next.new.self in
    let all = subst (λ l. All (λ p. end_at p < 2 ^ 32) (map (move_placed c.args.shift.now) l)) c.in-Some.ensures.steps.0 c.loop-thing.invariant.fits in
    let first : end_at (move_placed c.args.shift.now c.in-Some.thing) < 2 ^ 32 = All-head (λ p. end_at p < 2 ^ 32) (move_placed c.args.shift.now c.in-Some.thing) (map (move_placed c.args.shift.now) rest) all in
    record { fits = omega (arith, first) }

pub loop-thing-preserved : goal.loop-thing-preserved
loop-thing-preserved g c =
    let thing = c.in-Some.thing in
    let rest = into_iter_items c.next.new.self in
    let all = subst (λ l. All (λ p. end_at p < 2 ^ 32) (map (move_placed c.args.shift.now) l)) c.in-Some.ensures.steps.0 c.loop-thing.invariant.fits in
    let same = c.moved_offset.ensures in
    let made : Placed g.row.P.Denot = record { offset = c.moved_offset.result; bias = thing.bias; length = thing.length; id = thing.id; load = thing.load } in
    let first : move_placed c.args.shift.now thing ≡ made = λ i. record { offset = sym same i; bias = thing.bias; length = thing.length; id = thing.id; load = thing.load } in
    record {
      rest = c.loop-thing.invariant.rest
          ∙ ap (λ l. c.loop-thing.moved.items ++ map (move_placed c.args.shift.now) l) c.in-Some.ensures.steps.0
          ∙ sym (append_assoc c.loop-thing.moved.items (move_placed c.args.shift.now thing ∷ []) (map (move_placed c.args.shift.now) rest))
          ∙ ap (λ p. (c.loop-thing.moved.items ++ p ∷ []) ++ map (move_placed c.args.shift.now) rest) first
          ∙ ap (λ l. l ++ map (move_placed c.args.shift.now) rest) (sym c.in_ok-push.ensures.items);
      fits = All-tail (λ p. end_at p < 2 ^ 32) (move_placed c.args.shift.now thing) (map (move_placed c.args.shift.now) rest) all;
    }
