use Rattle.std.proofs.Common.{◌≡◌, ◌∙◌, ap, sym, length, arith}
use Rattle.std.specs.List.{list_any}
use Rattle.mark_tree.specs.Ranges.{has_range_id}
use Rattle.mark_tree.specs.RangeViews.{range_of}
use Rattle.mark_tree.proofs.RangeViewed.{any-range}
use Rattle.mark_tree.proofs.Moved.{length-map}
use Rattle.mark_tree.proofs.range_tree.RangeTree.contains.Goals as goal

pub returns-clause-value : goal.returns-clause-value
returns-clause-value c = c.is_some.ensures ∙ c.find_id.ensures.any ∙ any-range c.args.id c.self.inside.ranges ∙ ap (list_any (has_range_id c.args.id)) c.self.view_is

pub returns-clause-steps : goal.returns-clause-steps
returns-clause-steps c =
    let same : length c.self.inside.ranges ≡ length c.args.self.now = sym (length-map range_of c.self.inside.ranges) ∙ ap length c.self.view_is in
    omega (arith, same, c.find_id.ensures.steps)
