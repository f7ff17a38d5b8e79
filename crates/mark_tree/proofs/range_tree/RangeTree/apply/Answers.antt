use Rattle.std.proofs.Common.{◌≡◌, ◌+◌, ◌*◌, ◌<◌, ◌≤◌, ◌^◌, ◌∙◌, ap, sym, subst, length, map, count_by, IfOk, arith}
use Rattle.std.specs.List.{All}
use Rattle.mark_tree.specs.Order.{placed_le}
use Rattle.mark_tree.specs.RangeViews.{range_of}
use Rattle.mark_tree.proofs.RangeViewed.{count-met}
use Rattle.mark_tree.specs.RangeViews.{all_left_over, meets_extent}
use Rattle.mark_tree.specs.Ranges.{is_range_met, move_range, moved_ranges, dropped_ids}
use Rattle.cell_units.specs.Sorting.{sort_by}
use Rattle.mark_tree.proofs.Shrunk.{ranges-of, gone-of, fits-range}
use Rattle.mark_tree.proofs.Moved.{length-map}
use Rattle.mark_tree.proofs.Splicing.{map-at_ok, map-at_err}
use Rattle.mark_tree.proofs.range_tree.RangeTree.apply.Goals as goal

pub move_ranges-requires-clause-ranges : goal.move_ranges-requires-clause-ranges
move_ranges-requires-clause-ranges c = c.self.invariant

pub move_ranges-requires-clause-fits : goal.move_ranges-requires-clause-fits
move_ranges-requires-clause-fits c =
    fits-range c.args.shift c.self.inside.ranges (subst (λ l. All (λ r. (r.start < 2 ^ 32) × (r.end < 2 ^ 32)) (map (move_range c.args.shift) l)) (sym c.self.view_is) c.requires.fits)

pub invariant_of-self : goal.invariant_of-self
invariant_of-self c = c.move_ranges.ensures.ranges

pub returns-clause-ok : goal.returns-clause-ok
returns-clause-ok c =
    let ps = c.self.inside.ranges in
    map-at_ok (map range_of) c.move_ranges.result c.move_ranges.new.self (sort_by placed_le (all_left_over c.args.shift ps)) (moved_ranges c.args.shift c.args.self.now) c.move_ranges.ensures.ok
    (ranges-of c.args.shift ps c.self.invariant.each ∙ ap (moved_ranges c.args.shift) c.self.view_is)

pub returns-clause-dropped : goal.returns-clause-dropped
returns-clause-dropped c =
    let ps = c.self.inside.ranges in
    subst (λ l. IfOk c.move_ranges.result (λ ids. ids.items ≡ l)) (gone-of c.args.shift ps ∙ ap (dropped_ids c.args.shift) c.self.view_is) c.move_ranges.ensures.dropped

pub returns-clause-unchanged : goal.returns-clause-unchanged
returns-clause-unchanged c = map-at_err (map range_of) c.move_ranges.result c.move_ranges.new.self c.self.inside.ranges c.args.self.now c.move_ranges.ensures.unchanged c.self.view_is

pub returns-clause-steps : goal.returns-clause-steps
returns-clause-steps c h few =
    let ps = c.self.inside.ranges in
    let same : length ps ≡ length c.args.self.now = sym (length-map range_of ps) ∙ ap length c.self.view_is in
    let met : count_by (meets_extent c.args.shift) ps ≡ count_by (is_range_met c.args.shift) c.args.self.now = count-met c.args.shift ps ∙ ap (count_by (is_range_met c.args.shift)) c.self.view_is in
    subst (λ n. c.move_ranges.new.steps ≤ c.args.steps.now + 250 * (h + 1) * (n + 1)) met (c.move_ranges.ensures.steps h (omega (arith, few, same)))
