use Rattle.std.proofs.Common.{◌≡◌, ◌∙◌, ◌+◌, ◌*◌, ◌≤◌, length, filter, count_by, sym, ap, subst, IfOk, arith}
use Rattle.mark_tree.specs.Ranges.{has_in_common}
use Rattle.mark_tree.specs.RangeViews.{range_of}
use Rattle.mark_tree.proofs.Moved.{length-map}
use Rattle.mark_tree.proofs.range_tree.RangeTree.meeting.Goals as goal

pub returns-clause-met : goal.returns-clause-met
returns-clause-met c =
    subst (λ l. IfOk c.all_met.result (λ v. v.items ≡ filter (has_in_common c.args.start c.args.end) l)) c.self.view_is c.all_met.ensures.met

pub returns-clause-steps : goal.returns-clause-steps
returns-clause-steps c h few =
    let same : length c.self.inside.ranges ≡ length c.args.self.now = sym (length-map range_of c.self.inside.ranges) ∙ ap length c.self.view_is in
    subst (λ l. c.all_met.new.steps ≤ c.args.steps.now + 82 * (h + 1) * (count_by (has_in_common c.args.start c.args.end) l + 1)) c.self.view_is (c.all_met.ensures.steps h (omega (arith, few, same)))
