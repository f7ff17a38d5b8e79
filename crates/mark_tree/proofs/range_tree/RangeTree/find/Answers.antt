use Rattle.std.proofs.Common.{◌≡◌, ◌∙◌, ap, sym, length, position, arith}
use Rattle.mark_tree.specs.Ranges.{has_range_id}
use Rattle.mark_tree.specs.RangeViews.{range_of}
use Rattle.mark_tree.proofs.RangeViewed.{position-range}
use Rattle.mark_tree.proofs.Moved.{length-map}
use Rattle.mark_tree.proofs.range_tree.RangeTree.find.Goals as goal

pub returns-clause-place : goal.returns-clause-place
returns-clause-place c = c.find_id.ensures.found ∙ position-range c.args.id c.self.inside.ranges ∙ ap (position (has_range_id c.args.id)) c.self.view_is

pub returns-clause-steps : goal.returns-clause-steps
returns-clause-steps c =
    let same : length c.self.inside.ranges ≡ length c.args.self.now = sym (length-map range_of c.self.inside.ranges) ∙ ap length c.self.view_is in
    omega (arith, same, c.find_id.ensures.steps)
