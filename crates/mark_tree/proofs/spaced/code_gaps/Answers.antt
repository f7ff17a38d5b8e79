use Rattle.std.proofs.Common.{◌-◌, ◌++◌, ◌∷◌, [], ◌∙◌, ap, sym, subst, append_assoc}
use Rattle.std.specs.Vec.Iter.{into_iter_items}
use Rattle.mark_tree.specs.Entries.{IsSpaced, coded, entry_of}
use Rattle.mark_tree.proofs.spaced.code_gaps.Goals as goal

pub overflow_sub-thing : goal.overflow_sub-thing
overflow_sub-thing g c =
    (subst (λ l. IsSpaced c.loop-thing.last l) c.in-Some.ensures.steps.0 c.loop-thing.invariant.spaced).0

pub loop-thing-preserved : goal.loop-thing-preserved
loop-thing-preserved g c =
    let thing = c.in-Some.thing in
    let rest = into_iter_items c.next.new.self in
    let last = c.loop-thing.last in
    let es = c.loop-thing.entries.items in
    record {
      rest = c.loop-thing.invariant.rest
          ∙ ap (λ l. es ++ coded last l) c.in-Some.ensures.steps.0
          ∙ sym (append_assoc es (entry_of (thing.offset - last) thing ∷ []) (coded thing.offset rest))
          ∙ ap (λ l. l ++ coded thing.offset rest) (sym c.in_ok-push.ensures.items);
      spaced = (subst (λ l. IsSpaced last l) c.in-Some.ensures.steps.0 c.loop-thing.invariant.spaced).1;
    }
