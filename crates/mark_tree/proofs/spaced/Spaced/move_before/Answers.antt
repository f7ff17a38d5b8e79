use Rattle.std.proofs.Common.{◌+◌, ◌-◌, ◌*◌, ◌<◌, ◌^◌, sym, subst, count_by, take, length, arith}
use Rattle.mark_tree.specs.Entries.{run}
use Rattle.mark_tree.specs.RangeViews.{meets_extent}
use Rattle.mark_tree.proofs.Rounds.{IsMovedTo, all-moved, here-codable, here-distinct, here-fits, round-met, round-moved, round-steps}
use Rattle.mark_tree.proofs.spaced.Spaced.move_before.Goals as goal

pub returns-then-from-first-clause-ok : goal.returns-then-from-first-clause-ok
returns-then-from-first-clause-ok g c =
    all-moved c.args.shift.now c.args.first c.loop-from.at c.in_ok-from.from c.args.self.now c.loop-from.self c.requires c.loop-from.invariant.moved c.in_ok-from.ensures.place c.if-from-first.true

pub move_run-requires-clause-fits : goal.move_run-requires-clause-fits
move_run-requires-clause-fits g c =
    here-fits c.args.shift.now c.args.first c.loop-from.at c.in_ok-from.from c.group_end-to.result c.args.self.now c.loop-from.self c.requires c.loop-from.invariant.moved c.in_ok-from.ensures.place c.if-from-first.false c.group_end-to.ensures.group

pub move_run-requires-clause-distinct : goal.move_run-requires-clause-distinct
move_run-requires-clause-distinct g c =
    here-distinct c.args.shift.now c.args.first c.loop-from.at c.in_ok-from.from c.group_end-to.result c.args.self.now c.loop-from.self c.requires c.loop-from.invariant.moved c.in_ok-from.ensures.place c.if-from-first.false c.group_end-to.ensures.group

pub move_run-requires-clause-codable : goal.move_run-requires-clause-codable
move_run-requires-clause-codable g c =
    here-codable c.args.shift.now c.args.first c.loop-from.at c.in_ok-from.from c.group_end-to.result c.args.self.now c.loop-from.self c.requires c.loop-from.invariant.moved c.in_ok-from.ensures.place c.if-from-first.false c.group_end-to.ensures.group c.len-count.ensures.codable

pub returns-in_err-move_run-clause-steps : goal.returns-in_err-move_run-clause-steps
returns-in_err-move_run-clause-steps g c h few =
    let s = c.args.shift.now in
    let first = c.args.first in
    let at = c.loop-from.at in
    let from = c.in_ok-from.from in
    let to = c.group_end-to.result in
    let old = c.args.self.now in
    let some = c.group_end-to.ensures.group.some in
    let moved = round-moved s first at from to old c.loop-from.self c.requires c.loop-from.invariant.moved c.in_ok-from.ensures.place c.if-from-first.false c.group_end-to.ensures.group in
    let met = round-met s first at from to old c.loop-from.self c.requires c.loop-from.invariant.moved c.in_ok-from.ensures.place c.if-from-first.false c.group_end-to.ensures.group in
    let small : length c.loop-from.self < 2 * 6 ^ (h + 1) = omega (arith, few, c.loop-from.invariant.moved.same) in
    omega (
      arith,
      round-steps h (to - from) (count_by (meets_extent s) (run to first old)) (count_by (meets_extent s) (run at first old)) (c.args.steps.now + 250 * (h + 1) * count_by (meets_extent s) (take first old)) c.loop-from.steps c.first_reaching.new.steps c.group_end-to.new.steps c.move_run.new.steps
          (omega arith) (c.loop-from.invariant.steps h few) (c.in_ok-from.ensures.steps h small) (c.group_end-to.ensures.steps h small) (c.move_run.ensures.steps h small (omega (arith, few, moved.same))) met,
    )

pub loop-from-preserved : goal.loop-from-preserved
loop-from-preserved g c =
    let s = c.args.shift.now in
    let first = c.args.first in
    let at = c.loop-from.at in
    let from = c.in_ok-from.from in
    let to = c.group_end-to.result in
    let old = c.args.self.now in
    let some = c.group_end-to.ensures.group.some in
    let moved = round-moved s first at from to old c.loop-from.self c.requires c.loop-from.invariant.moved c.in_ok-from.ensures.place c.if-from-first.false c.group_end-to.ensures.group in
    let met = round-met s first at from to old c.loop-from.self c.requires c.loop-from.invariant.moved c.in_ok-from.ensures.place c.if-from-first.false c.group_end-to.ensures.group in
    record {
      moved = subst (IsMovedTo s first old to) (sym c.in_ok-move_run.ensures.ok) moved;
      counted = omega arith;
      steps = λ h few.
          let small : length c.loop-from.self < 2 * 6 ^ (h + 1) = omega (arith, few, c.loop-from.invariant.moved.same) in
          round-steps h (to - from) (count_by (meets_extent s) (run to first old)) (count_by (meets_extent s) (run at first old)) (c.args.steps.now + 250 * (h + 1) * count_by (meets_extent s) (take first old)) c.loop-from.steps c.first_reaching.new.steps c.group_end-to.new.steps c.move_run.new.steps
          (omega arith) (c.loop-from.invariant.steps h few) (c.in_ok-from.ensures.steps h small) (c.group_end-to.ensures.steps h small) (c.in_ok-move_run.ensures.steps h small (omega (arith, few, moved.same))) met;
    }
