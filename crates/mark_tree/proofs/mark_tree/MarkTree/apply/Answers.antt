use Rattle.std.proofs.Common.{◌≡◌, ◌+◌, ◌*◌, ◌<◌, ◌≤◌, ◌^◌, ◌∙◌, ap, sym, subst, length, map, count_by, refl, arith}
use Rattle.std.specs.List.{All}
use Rattle.mark_tree.specs.Marks.{is_met, move_mark, moved_marks}
use Rattle.mark_tree.specs.Order.{meets_offset, moved_placed}
use Rattle.mark_tree.specs.Views.{mark_of}
use Rattle.mark_tree.proofs.MarkViews.{IsFlat, count-of, moved-of, fits-of, flat-moved_all}
use Rattle.mark_tree.proofs.Moved.{length-map}
use Rattle.mark_tree.proofs.Splicing.{either, map-at_ok, map-at_err}
use Rattle.mark_tree.proofs.mark_tree.MarkTree.apply.Goals as goal

pub move_marks-requires-clause-ordered : goal.move_marks-requires-clause-ordered
move_marks-requires-clause-ordered g c = c.self.invariant.ordered

pub move_marks-requires-clause-fits : goal.move_marks-requires-clause-fits
move_marks-requires-clause-fits g c =
    fits-of c.args.shift c.self.inside.marks c.self.invariant.flat (subst (λ l. All (λ m. m.offset < 2 ^ 32) (map (move_mark c.args.shift) l)) (sym c.self.view_is) c.requires.fits)

pub invariant_of-self : goal.invariant_of-self
invariant_of-self g c =
    let ps = c.self.inside.marks in
    record {
      flat = either (All IsFlat) c.move_marks.result c.move_marks.new.self (moved_placed c.args.shift ps) ps c.move_marks.ensures.ok c.move_marks.ensures.unchanged (flat-moved_all c.args.shift ps c.self.invariant.flat) c.self.invariant.flat;
      ordered = c.move_marks.ensures.ordered;
    }

pub returns-clause-ok : goal.returns-clause-ok
returns-clause-ok g c =
    let ps = c.self.inside.marks in
    map-at_ok (map mark_of) c.move_marks.result c.move_marks.new.self (moved_placed c.args.shift ps) (moved_marks c.args.shift c.args.self.now) c.move_marks.ensures.ok
    (moved-of c.args.shift ps c.self.invariant.flat ∙ ap (moved_marks c.args.shift) c.self.view_is)

pub returns-clause-unchanged : goal.returns-clause-unchanged
returns-clause-unchanged g c = map-at_err (map mark_of) c.move_marks.result c.move_marks.new.self c.self.inside.marks c.args.self.now c.move_marks.ensures.unchanged c.self.view_is

pub returns-clause-steps : goal.returns-clause-steps
returns-clause-steps g c h few =
    let ps = c.self.inside.marks in
    let same : length ps ≡ length c.args.self.now = sym (length-map mark_of ps) ∙ ap length c.self.view_is in
    let met : count_by (meets_offset c.args.shift) ps ≡ count_by (is_met c.args.shift) c.args.self.now =
    count-of (meets_offset c.args.shift) (is_met c.args.shift) (λ p. refl) ps ∙ ap (count_by (is_met c.args.shift)) c.self.view_is in
    subst (λ n. c.move_marks.new.steps ≤ c.args.steps.now + 170 * (h + 1) * (n + 1)) met (c.move_marks.ensures.steps h (omega (arith, few, same)))
