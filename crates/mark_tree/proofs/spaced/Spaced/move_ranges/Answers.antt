use Rattle.std.proofs.Common.{◌≡◌, ◌+◌, ◌-◌, ◌*◌, ◌<◌, ◌≤◌, ◌^◌, ◌++◌, ◌∙◌, ap, sym, subst, count_by, take, drop, length, arith}
use Rattle.std.specs.List.{All}
use Rattle.mark_tree.specs.RangeViews.{AreRanges, AreSplit, emptied_ids, meets_extent, moved_extents}
use Rattle.mark_tree.proofs.Shrunk.{ranges-moved}
use Rattle.mark_tree.proofs.MovedRanges.{behind-same, gone-parts, length-same, met-parts, mid-distinct, mid-fits, mid-same, length-moved, placed, whole, whole-codable, whole-steps}
use Rattle.mark_tree.proofs.spaced.Spaced.move_ranges.Goals as goal

pub move_before-requires : goal.move_before-requires
move_before-requires g c =
    let s = c.args.shift.now in
    let old = c.args.self.now in
    let first = c.first_at-first.result in
    let last = c.first_at-last.result in
    let places = placed s first last old c.requires.ranges c.requires.fits c.first_at-first.ensures.within c.first_at-first.ensures.before c.first_at-first.ensures.from c.first_at-last.ensures.within c.first_at-last.ensures.before c.first_at-last.ensures.from in
    subst (AreSplit s first) (sym c.in_ok-moved.ensures) places.split

pub move_run-requires-clause-order : goal.move_run-requires-clause-order
move_run-requires-clause-order g c =
    let s = c.args.shift.now in
    let old = c.args.self.now in
    let first = c.first_at-first.result in
    let last = c.first_at-last.result in
    let places = placed s first last old c.requires.ranges c.requires.fits c.first_at-first.ensures.within c.first_at-first.ensures.before c.first_at-first.ensures.from c.first_at-last.ensures.within c.first_at-last.ensures.before c.first_at-last.ensures.from in
    places.order

pub move_run-requires-clause-within : goal.move_run-requires-clause-within
move_run-requires-clause-within g c =
    let s = c.args.shift.now in
    let old = c.args.self.now in
    let first = c.first_at-first.result in
    let last = c.first_at-last.result in
    let places = placed s first last old c.requires.ranges c.requires.fits c.first_at-first.ensures.within c.first_at-first.ensures.before c.first_at-first.ensures.from c.first_at-last.ensures.within c.first_at-last.ensures.before c.first_at-last.ensures.from in
    let before : c.move_before.new.self ≡ moved_extents s (take first old) ++ drop first old = c.in_ok-move_before.ensures.ok ∙ ap (λ l. moved_extents s (take first l) ++ drop first l) c.in_ok-moved.ensures in
    subst (λ n. last ≤ n) (sym (length-same s first last old places c.move_before.new.self before)) places.within

pub move_run-requires-clause-fits : goal.move_run-requires-clause-fits
move_run-requires-clause-fits g c =
    let s = c.args.shift.now in
    let old = c.args.self.now in
    let first = c.first_at-first.result in
    let last = c.first_at-last.result in
    let places = placed s first last old c.requires.ranges c.requires.fits c.first_at-first.ensures.within c.first_at-first.ensures.before c.first_at-first.ensures.from c.first_at-last.ensures.within c.first_at-last.ensures.before c.first_at-last.ensures.from in
    let before : c.move_before.new.self ≡ moved_extents s (take first old) ++ drop first old = c.in_ok-move_before.ensures.ok ∙ ap (λ l. moved_extents s (take first l) ++ drop first l) c.in_ok-moved.ensures in
    mid-fits s first last old places c.move_before.new.self before

pub move_run-requires-clause-distinct : goal.move_run-requires-clause-distinct
move_run-requires-clause-distinct g c =
    let s = c.args.shift.now in
    let old = c.args.self.now in
    let first = c.first_at-first.result in
    let last = c.first_at-last.result in
    let places = placed s first last old c.requires.ranges c.requires.fits c.first_at-first.ensures.within c.first_at-first.ensures.before c.first_at-first.ensures.from c.first_at-last.ensures.within c.first_at-last.ensures.before c.first_at-last.ensures.from in
    let before : c.move_before.new.self ≡ moved_extents s (take first old) ++ drop first old = c.in_ok-move_before.ensures.ok ∙ ap (λ l. moved_extents s (take first l) ++ drop first l) c.in_ok-moved.ensures in
    mid-distinct s first last old places c.move_before.new.self before

pub move_run-requires-clause-behind : goal.move_run-requires-clause-behind
move_run-requires-clause-behind g c =
    let s = c.args.shift.now in
    let old = c.args.self.now in
    let first = c.first_at-first.result in
    let last = c.first_at-last.result in
    let places = placed s first last old c.requires.ranges c.requires.fits c.first_at-first.ensures.within c.first_at-first.ensures.before c.first_at-first.ensures.from c.first_at-last.ensures.within c.first_at-last.ensures.before c.first_at-last.ensures.from in
    let before : c.move_before.new.self ≡ moved_extents s (take first old) ++ drop first old = c.in_ok-move_before.ensures.ok ∙ ap (λ l. moved_extents s (take first l) ++ drop first l) c.in_ok-moved.ensures in
    subst (All (λ p. s.end ≤ p.offset)) (sym (behind-same s first last old places c.move_before.new.self before)) (λ k d lt. omega (arith, c.first_at-last.ensures.from k d lt))

pub move_run-requires-clause-codable : goal.move_run-requires-clause-codable
move_run-requires-clause-codable g c =
    let s = c.args.shift.now in
    let old = c.args.self.now in
    let first = c.first_at-first.result in
    let last = c.first_at-last.result in
    let places = placed s first last old c.requires.ranges c.requires.fits c.first_at-first.ensures.within c.first_at-first.ensures.before c.first_at-first.ensures.from c.first_at-last.ensures.within c.first_at-last.ensures.before c.first_at-last.ensures.from in
    let before : c.move_before.new.self ≡ moved_extents s (take first old) ++ drop first old = c.in_ok-move_before.ensures.ok ∙ ap (λ l. moved_extents s (take first l) ++ drop first l) c.in_ok-moved.ensures in
    whole-codable s first last old places c.move_before.new.self before c.len-count.ensures.codable

pub returns-clause-ok : goal.returns-clause-ok
returns-clause-ok g c =
    let s = c.args.shift.now in
    let old = c.args.self.now in
    let first = c.first_at-first.result in
    let last = c.first_at-last.result in
    let places = placed s first last old c.requires.ranges c.requires.fits c.first_at-first.ensures.within c.first_at-first.ensures.before c.first_at-first.ensures.from c.first_at-last.ensures.within c.first_at-last.ensures.before c.first_at-last.ensures.from in
    let before : c.move_before.new.self ≡ moved_extents s (take first old) ++ drop first old = c.in_ok-move_before.ensures.ok ∙ ap (λ l. moved_extents s (take first l) ++ drop first l) c.in_ok-moved.ensures in
    c.in_ok-dropped.ensures.ok ∙ whole s first last old places c.move_before.new.self before

pub returns-clause-dropped : goal.returns-clause-dropped
returns-clause-dropped g c =
    let s = c.args.shift.now in
    let old = c.args.self.now in
    let first = c.first_at-first.result in
    let last = c.first_at-last.result in
    let places = placed s first last old c.requires.ranges c.requires.fits c.first_at-first.ensures.within c.first_at-first.ensures.before c.first_at-first.ensures.from c.first_at-last.ensures.within c.first_at-last.ensures.before c.first_at-last.ensures.from in
    let before : c.move_before.new.self ≡ moved_extents s (take first old) ++ drop first old = c.in_ok-move_before.ensures.ok ∙ ap (λ l. moved_extents s (take first l) ++ drop first l) c.in_ok-moved.ensures in
    c.in_ok-dropped.ensures.dropped ∙ ap (emptied_ids s) (mid-same s first last old places c.move_before.new.self before) ∙ sym (gone-parts s first last old places)

pub returns-clause-ranges : goal.returns-clause-ranges
returns-clause-ranges g c =
    let s = c.args.shift.now in
    let old = c.args.self.now in
    let first = c.first_at-first.result in
    let last = c.first_at-last.result in
    let places = placed s first last old c.requires.ranges c.requires.fits c.first_at-first.ensures.within c.first_at-first.ensures.before c.first_at-first.ensures.from c.first_at-last.ensures.within c.first_at-last.ensures.before c.first_at-last.ensures.from in
    let before : c.move_before.new.self ≡ moved_extents s (take first old) ++ drop first old = c.in_ok-move_before.ensures.ok ∙ ap (λ l. moved_extents s (take first l) ++ drop first l) c.in_ok-moved.ensures in
    subst AreRanges (sym (c.in_ok-dropped.ensures.ok ∙ whole s first last old places c.move_before.new.self before)) (ranges-moved s old c.requires.ranges)

pub returns-clause-steps : goal.returns-clause-steps
returns-clause-steps g c h few =
    let s = c.args.shift.now in
    let old = c.args.self.now in
    let first = c.first_at-first.result in
    let last = c.first_at-last.result in
    let places = placed s first last old c.requires.ranges c.requires.fits c.first_at-first.ensures.within c.first_at-first.ensures.before c.first_at-first.ensures.from c.first_at-last.ensures.within c.first_at-last.ensures.before c.first_at-last.ensures.from in
    let before : c.move_before.new.self ≡ moved_extents s (take first old) ++ drop first old = c.in_ok-move_before.ensures.ok ∙ ap (λ l. moved_extents s (take first l) ++ drop first l) c.in_ok-moved.ensures in
    let same = length-same s first last old places c.move_before.new.self before in
    let all = whole s first last old places c.move_before.new.self before in
    let copy : length c.in_ok-moved.moved < 2 * 6 ^ (h + 1) = omega (arith, few, ap length c.in_ok-moved.ensures) in
    let rounds = subst (λ l. c.move_before.new.steps ≤ c.first_at-last.new.steps + (250 * (h + 1) * count_by (meets_extent s) (take first l) + 81 * (h + 1))) c.in_ok-moved.ensures (c.in_ok-move_before.ensures.steps h copy) in
    whole-steps h (count_by (meets_extent s) (take first old)) (last - first) (count_by (meets_extent s) old) c.args.steps.now c.first_at-first.new.steps c.first_at-last.new.steps c.move_before.new.steps c.move_run.new.steps (met-parts s first last old places)
    (c.first_at-first.ensures.steps h few) (c.first_at-last.ensures.steps h few) rounds (c.in_ok-dropped.ensures.steps h (omega (arith, few, same)) (omega (arith, few, ap length all, length-moved s old)))

pub returns-in_err-dropped-clause-steps : goal.returns-in_err-dropped-clause-steps
returns-in_err-dropped-clause-steps g c h few =
    let s = c.args.shift.now in
    let old = c.args.self.now in
    let first = c.first_at-first.result in
    let last = c.first_at-last.result in
    let places = placed s first last old c.requires.ranges c.requires.fits c.first_at-first.ensures.within c.first_at-first.ensures.before c.first_at-first.ensures.from c.first_at-last.ensures.within c.first_at-last.ensures.before c.first_at-last.ensures.from in
    let before : c.move_before.new.self ≡ moved_extents s (take first old) ++ drop first old = c.in_ok-move_before.ensures.ok ∙ ap (λ l. moved_extents s (take first l) ++ drop first l) c.in_ok-moved.ensures in
    let same = length-same s first last old places c.move_before.new.self before in
    let all = whole s first last old places c.move_before.new.self before in
    let copy : length c.in_ok-moved.moved < 2 * 6 ^ (h + 1) = omega (arith, few, ap length c.in_ok-moved.ensures) in
    let rounds = subst (λ l. c.move_before.new.steps ≤ c.first_at-last.new.steps + (250 * (h + 1) * count_by (meets_extent s) (take first l) + 81 * (h + 1))) c.in_ok-moved.ensures (c.in_ok-move_before.ensures.steps h copy) in
    whole-steps h (count_by (meets_extent s) (take first old)) (last - first) (count_by (meets_extent s) old) c.args.steps.now c.first_at-first.new.steps c.first_at-last.new.steps c.move_before.new.steps c.move_run.new.steps (met-parts s first last old places)
    (c.first_at-first.ensures.steps h few) (c.first_at-last.ensures.steps h few) rounds (c.move_run.ensures.steps h (omega (arith, few, same)) (omega (arith, few, ap length all, length-moved s old)))

pub returns-in_err-move_before-clause-steps : goal.returns-in_err-move_before-clause-steps
returns-in_err-move_before-clause-steps g c h few =
    let s = c.args.shift.now in
    let old = c.args.self.now in
    let first = c.first_at-first.result in
    let last = c.first_at-last.result in
    let places = placed s first last old c.requires.ranges c.requires.fits c.first_at-first.ensures.within c.first_at-first.ensures.before c.first_at-first.ensures.from c.first_at-last.ensures.within c.first_at-last.ensures.before c.first_at-last.ensures.from in
    let copy : length c.in_ok-moved.moved < 2 * 6 ^ (h + 1) = omega (arith, few, ap length c.in_ok-moved.ensures) in
    let rounds = subst (λ l. c.move_before.new.steps ≤ c.first_at-last.new.steps + (250 * (h + 1) * count_by (meets_extent s) (take first l) + 81 * (h + 1))) c.in_ok-moved.ensures (c.move_before.ensures.steps h copy) in
    whole-steps h (count_by (meets_extent s) (take first old)) (last - first) (count_by (meets_extent s) old) c.args.steps.now c.first_at-first.new.steps c.first_at-last.new.steps c.move_before.new.steps c.move_before.new.steps (met-parts s first last old places)
    (c.first_at-first.ensures.steps h few) (c.first_at-last.ensures.steps h few) rounds (omega arith)
