use Rattle.std.proofs.Common.{◌<◌, ◌^◌, ◌++◌, ◌∙◌, ap, sym, subst, append_assoc}
use Rattle.std.specs.List.{All}
use Rattle.std.specs.Vec.Iter.{into_iter_items}
use Rattle.std.proofs.lemmas.List.Elements.{All-head, All-tail}
use Rattle.mark_tree.specs.Entries.{end_at}
use Rattle.mark_tree.specs.RangeViews.{IsFittingMoved, all_left_over, emptied_ids, left_over, emptied_id}
use Rattle.mark_tree.proofs.Shrunk.{left-cons, gone-cons}
use Rattle.mark_tree.proofs.shrinking.remains_of.Goals as goal

pub loop-range-preserved : goal.loop-range-preserved
loop-range-preserved g c =
    let s = c.args.shift.now in
    let rest = into_iter_items c.next.new.self in
    record {
      left = c.loop-range.invariant.left
          ∙ ap (λ l. c.loop-range.remains.ranges.items ++ all_left_over s l) c.in-Some.ensures.steps.0
          ∙ ap (λ l. c.loop-range.remains.ranges.items ++ l) (left-cons s c.in-Some.range rest)
          ∙ sym (append_assoc c.loop-range.remains.ranges.items (left_over s c.in-Some.range) (all_left_over s rest))
          ∙ ap (λ l. l ++ all_left_over s rest) (sym c.in_ok-add.ensures.ranges);
      gone = c.loop-range.invariant.gone
          ∙ ap (λ l. c.loop-range.remains.dropped.items ++ emptied_ids s l) c.in-Some.ensures.steps.0
          ∙ ap (λ l. c.loop-range.remains.dropped.items ++ l) (gone-cons s c.in-Some.range rest)
          ∙ sym (append_assoc c.loop-range.remains.dropped.items (emptied_id s c.in-Some.range) (emptied_ids s rest))
          ∙ ap (λ l. l ++ emptied_ids s rest) (sym c.in_ok-add.ensures.dropped);
      ends = All-tail (λ p. end_at p < 2 ^ 32) c.in-Some.range rest (subst (All (λ p. end_at p < 2 ^ 32)) c.in-Some.ensures.steps.0 c.loop-range.invariant.ends);
      fits = All-tail (IsFittingMoved s) c.in-Some.range rest (subst (All (IsFittingMoved s)) c.in-Some.ensures.steps.0 c.loop-range.invariant.fits);
    }

pub add-requires-clause-end : goal.add-requires-clause-end
add-requires-clause-end g c =
    let rest = into_iter_items c.next.new.self in
    All-head (λ p. end_at p < 2 ^ 32) c.in-Some.range rest (subst (All (λ p. end_at p < 2 ^ 32)) c.in-Some.ensures.steps.0 c.loop-range.invariant.ends)

pub add-requires-clause-fits : goal.add-requires-clause-fits
add-requires-clause-fits g c =
    let rest = into_iter_items c.next.new.self in
    All-head (IsFittingMoved c.args.shift.now) c.in-Some.range rest (subst (All (IsFittingMoved c.args.shift.now)) c.in-Some.ensures.steps.0 c.loop-range.invariant.fits)
