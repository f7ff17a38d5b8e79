use Rattle.std.proofs.Common.{◌≡◌, ◌+◌, ◌-◌, ◌*◌, ◌<◌, ◌≤◌, ◌^◌, ◌∙◌, ap, sym, subst, count_by, drop, length, arith}
use Rattle.std.specs.List.{All}
use Rattle.std.proofs.lemmas.List.Elements.{All-take, All-drop}
use Rattle.cell_units.specs.Sorting.{sort_by}
use Rattle.mark_tree.specs.Entries.{IsCodable, end_at, run, spliced}
use Rattle.mark_tree.specs.Order.{placed_le, has_placed_id}
use Rattle.mark_tree.specs.RangeViews.{IsFittingMoved, all_left_over, emptied_ids, moved_extents}
use Rattle.mark_tree.proofs.Runs.{length-run}
use Rattle.mark_tree.proofs.Shrunk.{count-left, length-left, run-steps}
use Rattle.mark_tree.proofs.Sorting.{length-sort}
use Rattle.mark_tree.proofs.spaced.Spaced.move_run.Goals as goal

pub remains_of-requires-clause-ends : goal.remains_of-requires-clause-ends
remains_of-requires-clause-ends g c =
    subst (All (λ p. end_at p < 2 ^ 32)) (sym c.in_ok-copies.ensures.copies)
    (All-take (λ p. end_at p < 2 ^ 32) (c.args.to - c.args.from) (drop c.args.from c.args.self.now) (All-drop (λ p. end_at p < 2 ^ 32) c.args.from c.args.self.now c.len-count.ensures.codable.ends))

pub remains_of-requires-clause-fits : goal.remains_of-requires-clause-fits
remains_of-requires-clause-fits g c = subst (All (IsFittingMoved c.args.shift.now)) (sym c.in_ok-copies.ensures.copies) c.requires.fits

pub sort_placed-requires : goal.sort_placed-requires
sort_placed-requires g c id =
    let s = c.args.shift.now in
    let here = run c.args.from c.args.to c.args.self.now in
    omega (arith, ap (count_by (has_placed_id id)) (c.in_ok-moved.ensures.ranges ∙ ap (all_left_over s) c.in_ok-copies.ensures.copies), count-left s id here, c.requires.distinct id)

pub splice-requires-clause-codable : goal.splice-requires-clause-codable
splice-requires-clause-codable g c =
    let s = c.args.shift.now in
    let sorted : c.sort_placed.new.things.items ≡ moved_extents s (run c.args.from c.args.to c.args.self.now) =
    c.in_ok-sort_placed.ensures.ok ∙ ap (sort_by placed_le) (c.in_ok-moved.ensures.ranges ∙ ap (all_left_over s) c.in_ok-copies.ensures.copies) in
    subst (λ l. IsCodable (spliced c.args.from c.args.to l c.args.behind.now c.args.self.now)) (sym sorted) c.requires.codable

pub returns-clause-ok : goal.returns-clause-ok
returns-clause-ok g c =
    let s = c.args.shift.now in
    let sorted : c.sort_placed.new.things.items ≡ moved_extents s (run c.args.from c.args.to c.args.self.now) =
    c.in_ok-sort_placed.ensures.ok ∙ ap (sort_by placed_le) (c.in_ok-moved.ensures.ranges ∙ ap (all_left_over s) c.in_ok-copies.ensures.copies) in
    c.in_ok-splice.ensures.ok ∙ ap (λ l. spliced c.args.from c.args.to l c.args.behind.now c.args.self.now) sorted

pub returns-clause-dropped : goal.returns-clause-dropped
returns-clause-dropped g c = c.in_ok-moved.ensures.dropped ∙ ap (emptied_ids c.args.shift.now) c.in_ok-copies.ensures.copies

pub returns-clause-steps : goal.returns-clause-steps
returns-clause-steps g c h few few' =
    let s = c.args.shift.now in
    let old = c.args.self.now in
    let here = run c.args.from c.args.to old in
    let sorted : c.sort_placed.new.things.items ≡ moved_extents s here =
    c.in_ok-sort_placed.ensures.ok ∙ ap (sort_by placed_le) (c.in_ok-moved.ensures.ranges ∙ ap (all_left_over s) c.in_ok-copies.ensures.copies) in
    let size : length c.sort_placed.new.things.items ≤ c.args.to - c.args.from =
    omega (arith, ap length sorted, length-sort placed_le (all_left_over s here), length-left s here, length-run old c.args.from c.args.to c.requires.within) in
    let new = subst (λ l. length (spliced c.args.from c.args.to l c.args.behind.now old) < 2 * 6 ^ (h + 1)) (sym sorted) few' in
    run-steps h (c.args.to - c.args.from) (length c.sort_placed.new.things.items) c.args.steps.now c.copied.new.steps c.splice.new.steps size (c.in_ok-copies.ensures.steps h few) (c.in_ok-splice.ensures.steps h few new)

pub returns-in_err-splice-clause-steps : goal.returns-in_err-splice-clause-steps
returns-in_err-splice-clause-steps g c h few few' =
    let s = c.args.shift.now in
    let old = c.args.self.now in
    let here = run c.args.from c.args.to old in
    let sorted : c.sort_placed.new.things.items ≡ moved_extents s here =
    c.in_ok-sort_placed.ensures.ok ∙ ap (sort_by placed_le) (c.in_ok-moved.ensures.ranges ∙ ap (all_left_over s) c.in_ok-copies.ensures.copies) in
    let size : length c.sort_placed.new.things.items ≤ c.args.to - c.args.from =
    omega (arith, ap length sorted, length-sort placed_le (all_left_over s here), length-left s here, length-run old c.args.from c.args.to c.requires.within) in
    let new = subst (λ l. length (spliced c.args.from c.args.to l c.args.behind.now old) < 2 * 6 ^ (h + 1)) (sym sorted) few' in
    run-steps h (c.args.to - c.args.from) (length c.sort_placed.new.things.items) c.args.steps.now c.copied.new.steps c.splice.new.steps size (c.in_ok-copies.ensures.steps h few) (c.splice.ensures.steps h few new)

pub returns-in_err-copies-clause-steps : goal.returns-in_err-copies-clause-steps
returns-in_err-copies-clause-steps g c h few few' =
    run-steps h (c.args.to - c.args.from) 0 c.args.steps.now c.copied.new.steps c.copied.new.steps (omega arith) (c.copied.ensures.steps h few) (omega arith)

pub returns-in_err-moved-clause-steps : goal.returns-in_err-moved-clause-steps
returns-in_err-moved-clause-steps g c h few few' =
    run-steps h (c.args.to - c.args.from) 0 c.args.steps.now c.copied.new.steps c.copied.new.steps (omega arith) (c.in_ok-copies.ensures.steps h few) (omega arith)

pub returns-in_err-sort_placed-clause-steps : goal.returns-in_err-sort_placed-clause-steps
returns-in_err-sort_placed-clause-steps g c h few few' =
    run-steps h (c.args.to - c.args.from) 0 c.args.steps.now c.copied.new.steps c.copied.new.steps (omega arith) (c.in_ok-copies.ensures.steps h few) (omega arith)
