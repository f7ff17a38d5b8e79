use Rattle.std.proofs.Common.{◌+◌, ◌*◌, ◌≤◌, length, map, count_by, arith}
use Rattle.mark_tree.specs.Ranges.{has_in_common}
use Rattle.mark_tree.specs.RangeViews.{range_of}
use Rattle.mark_tree.proofs.Finding.{steps-more}
use Rattle.mark_tree.proofs.Walking.{met-count}
use Rattle.mark_tree.proofs.spaced.Spaced.all_met.Goals as goal

pub returns-in_err-met-clause-steps : goal.returns-in_err-met-clause-steps
returns-in_err-met-clause-steps g c h few =
    let so_far = length c.loop-ranges.ranges.items in
    let all = count_by (has_in_common c.args.start c.args.end) (map range_of c.args.self.now) in
    let fewer : so_far ≤ all = met-count c.args.start c.args.end c.args.self.now c.loop-ranges.ranges.items c.loop-ranges.at c.loop-ranges.invariant.rest in
    steps-more (82 * (h + 1)) so_far (all + 1) c.args.steps.now c.loop-ranges.steps c.next_met.new.steps (omega arith) (c.loop-ranges.invariant.steps h few) (c.next_met.ensures.steps h few)

pub returns-in_err-push-clause-steps : goal.returns-in_err-push-clause-steps
returns-in_err-push-clause-steps g c h few =
    let so_far = length c.loop-ranges.ranges.items in
    let all = count_by (has_in_common c.args.start c.args.end) (map range_of c.args.self.now) in
    let fewer : so_far ≤ all = met-count c.args.start c.args.end c.args.self.now c.loop-ranges.ranges.items c.loop-ranges.at c.loop-ranges.invariant.rest in
    steps-more (82 * (h + 1)) so_far (all + 1) c.args.steps.now c.loop-ranges.steps c.next_met.new.steps (omega arith) (c.loop-ranges.invariant.steps h few) (c.next_met.ensures.steps h few)

pub returns-clause-steps : goal.returns-clause-steps
returns-clause-steps g c h few =
    let so_far = length c.loop-ranges.ranges.items in
    let all = count_by (has_in_common c.args.start c.args.end) (map range_of c.args.self.now) in
    let fewer : so_far ≤ all = met-count c.args.start c.args.end c.args.self.now c.loop-ranges.ranges.items c.loop-ranges.at c.loop-ranges.invariant.rest in
    steps-more (82 * (h + 1)) so_far (all + 1) c.args.steps.now c.loop-ranges.steps c.next_met.new.steps (omega arith) (c.loop-ranges.invariant.steps h few) (c.next_met.ensures.steps h few)
