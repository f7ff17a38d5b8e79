use Rattle.std.proofs.Common.{◌≡◌, ◌∙◌, ap, sym, subst, length, arith}
use Rattle.std.specs.List.{position_or_len}
use Rattle.mark_tree.specs.Marks.{is_not_before}
use Rattle.mark_tree.specs.Order.{IsPlaceFor}
use Rattle.mark_tree.specs.Views.{mark_of}
use Rattle.mark_tree.proofs.MarkViews.{place-of}
use Rattle.mark_tree.proofs.Moved.{length-map}
use Rattle.mark_tree.proofs.mark_tree.MarkTree.place_of.Goals as goal

pub place_for-requires : goal.place_for-requires
place_for-requires g c = record { ordered = c.self.invariant.ordered }

pub returns-clause-place : goal.returns-clause-place
returns-clause-place g c =
    let ps = c.self.inside.marks in
    place-of c.args.offset c.args.bias c.args.id ps c.place_for.result c.self.invariant.flat
    (subst (λ k. IsPlaceFor k ps c.place_for.result) c.new.ensures c.place_for.ensures.place)
    ∙ ap (position_or_len (is_not_before c.args.offset c.args.bias c.args.id)) c.self.view_is

pub returns-clause-steps : goal.returns-clause-steps
returns-clause-steps g c h few =
    let same : length c.self.inside.marks ≡ length c.args.self.now = sym (length-map mark_of c.self.inside.marks) ∙ ap length c.self.view_is in
    c.place_for.ensures.steps h (omega (arith, few, same))
