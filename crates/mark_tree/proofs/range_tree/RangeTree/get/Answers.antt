use Rattle.std.proofs.Common.{◌≡◌, ◌≤◌, ◌<◌, ◌+◌, ◌^◌, ◌∙◌, List, Some, None, get_or, ap, sym, subst, length, arith}
use Rattle.std.specs.Prelude.{option_map}
use Rattle.std.specs.List.{slice_get}
use Rattle.std.proofs.lemmas.Option.{get_or_from_slice_get, slice_get-map, slice_get_past, slice_get_within}
use Rattle.sum_core.specs.declared.load.NoLoad.{NoLoad}
use Rattle.mark_tree.specs.declared.entry.Placed.{Placed}
use Rattle.mark_tree.specs.declared.mark.RangeMark.{RangeMark}
use Rattle.mark_tree.specs.Entries.{end_at, placed_at}
use Rattle.mark_tree.specs.RangeViews.{range_of}
use Rattle.mark_tree.proofs.Moved.{length-map}
use Rattle.mark_tree.proofs.range_tree.RangeTree.get.Goals as goal

pub overflow_add-result : goal.overflow_add-result
overflow_add-result c =
    let ps = c.self.inside.ranges in
    let p : Placed NoLoad = placed_at c.in_ok-found.found.offset c.in_ok-found.found.entry.now in
    let here = get_or_from_slice_get ps c.args.at p p c.in_ok-found.ensures.found in
    let fits : end_at p < 2 ^ 32 = subst (λ (q : Placed NoLoad). end_at q < 2 ^ 32) here (c.len-count.ensures.codable.ends c.args.at p (slice_get_within ps c.args.at p c.in_ok-found.ensures.found)) in
    omega (arith, fits)

pub returns-in_err-found-clause-range : goal.returns-in_err-found-clause-range
returns-in_err-found-clause-range c =
    let past : length c.args.self.now ≤ c.args.at = omega (arith, c.in_err-found.ensures.found, length-map range_of c.self.inside.ranges, ap length c.self.view_is) in
    c.from_residual.ensures ∙ sym (slice_get_past c.args.self.now c.args.at past)

pub returns-in_err-found-clause-steps : goal.returns-in_err-found-clause-steps
returns-in_err-found-clause-steps c h few =
    c.get.ensures.steps h (omega (arith, few, length-map range_of c.self.inside.ranges, ap length c.self.view_is))

pub returns-clause-range : goal.returns-clause-range
returns-clause-range c =
    sym (ap (λ (l : List RangeMark). slice_get l c.args.at) (sym c.self.view_is)
    ∙ slice_get-map range_of c.self.inside.ranges c.args.at
    ∙ ap (option_map range_of) c.in_ok-found.ensures.found)

pub returns-clause-steps : goal.returns-clause-steps
returns-clause-steps c h few =
    c.get.ensures.steps h (omega (arith, few, length-map range_of c.self.inside.ranges, ap length c.self.view_is))
