use Rattle.std.proofs.Common.{◌∙◌, ap, sym, subst, length}
use Rattle.mark_tree.specs.Ranges.{IsRangeList}
use Rattle.mark_tree.specs.RangeViews.{range_of}
use Rattle.mark_tree.proofs.RangeViewed.{lawful-range}
use Rattle.mark_tree.proofs.Moved.{length-map}
use Rattle.mark_tree.proofs.range_tree.RangeTree.len.Goals as goal

pub returns-clause-len : goal.returns-clause-len
returns-clause-len c = c.len.ensures.len ∙ sym (length-map range_of c.self.inside.ranges) ∙ ap length c.self.view_is

pub returns-clause-lawful : goal.returns-clause-lawful
returns-clause-lawful c = subst IsRangeList c.self.view_is (lawful-range c.self.inside.ranges c.self.invariant c.len.ensures.codable)
