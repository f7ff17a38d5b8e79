use Rattle.std.proofs.Common.{◌≡◌, ◌+◌, ◌*◌, ◌≤◌, ◌∷◌, ◌++◌, ◌∙◌, take, drop, ap, sym, subst, length, map, IfErr, arith}
use Rattle.std.specs.List.{All, list_any}
use Rattle.cell_units.specs.declared.fault.Refusal.TheVariants.{IdInUse}
use Rattle.cell_units.specs.Sorting.{insert_by}
use Rattle.mark_tree.specs.declared.entry.Placed.{Placed}
use Rattle.mark_tree.specs.Marks.{IsRefusedFor, mark_le, has_id}
use Rattle.mark_tree.specs.Order.{placed_le}
use Rattle.mark_tree.specs.Views.{mark_of}
use Rattle.mark_tree.proofs.MarkViews.{IsFlat, insert-of, any-of, around-of, flat-added}
use Rattle.mark_tree.proofs.Changing.{every-from_all}
use Rattle.mark_tree.proofs.Moved.{length-map}
use Rattle.mark_tree.proofs.Splicing.{either, map-at_ok, map-at_err, ok-maps, ok-weaker}
use Rattle.mark_tree.proofs.mark_tree.MarkTree.insert.Goals as goal

pub add-requires-clause-ordered : goal.add-requires-clause-ordered
add-requires-clause-ordered g c = c.self.invariant.ordered

pub invariant_of-self : goal.invariant_of-self
invariant_of-self g c =
    let ps = c.self.inside.marks in
    let p : Placed g.row.P.Denot = record { offset = c.args.mark.offset; bias = c.args.mark.bias; length = 0; id = c.args.mark.id; load = c.args.mark.load } in
    record {
      flat = either (All IsFlat) c.add.result c.add.new.self (insert_by placed_le p ps) ps c.add.ensures.ok c.add.ensures.unchanged (flat-added p ps (λ i. 0) c.self.invariant.flat) c.self.invariant.flat;
      ordered = c.add.ensures.ordered;
    }

pub returns-clause-ok : goal.returns-clause-ok
returns-clause-ok g c =
    let ps = c.self.inside.marks in
    let p : Placed g.row.P.Denot = record { offset = c.args.mark.offset; bias = c.args.mark.bias; length = 0; id = c.args.mark.id; load = c.args.mark.load } in
    map-at_ok (map mark_of) c.add.result c.add.new.self (insert_by placed_le p ps) (insert_by mark_le c.args.mark c.args.self.now) c.add.ensures.ok
    (insert-of p ps (λ i. 0) (every-from_all IsFlat ps c.self.invariant.flat) ∙ ap (insert_by mark_le c.args.mark) c.self.view_is)

pub returns-clause-place : goal.returns-clause-place
returns-clause-place g c =
    let ps = c.self.inside.marks in
    let p : Placed g.row.P.Denot = record { offset = c.args.mark.offset; bias = c.args.mark.bias; length = 0; id = c.args.mark.id; load = c.args.mark.load } in
    ok-maps (λ at. c.add.new.self ≡ take at ps ++ p ∷ drop at ps) (λ at. map mark_of c.add.new.self ≡ take at c.args.self.now ++ c.args.mark ∷ drop at c.args.self.now) c.add.result (λ at e. ap (map mark_of) e ∙ around-of at p ps ∙ ap (λ l. take at l ++ c.args.mark ∷ drop at l) c.self.view_is) c.add.ensures.place

pub returns-clause-fresh : goal.returns-clause-fresh
returns-clause-fresh g c =
    let same = any-of c.args.mark.id c.self.inside.marks ∙ ap (list_any (has_id c.args.mark.id)) c.self.view_is in
    ok-weaker c.add.result (λ e. sym same ∙ e) c.add.ensures.fresh

pub returns-clause-refused : goal.returns-clause-refused
returns-clause-refused g c =
    subst (λ b. IfErr c.add.result (IsRefusedFor IdInUse b)) (any-of c.args.mark.id c.self.inside.marks ∙ ap (list_any (has_id c.args.mark.id)) c.self.view_is) c.add.ensures.refused

pub returns-clause-unchanged : goal.returns-clause-unchanged
returns-clause-unchanged g c = map-at_err (map mark_of) c.add.result c.add.new.self c.self.inside.marks c.args.self.now c.add.ensures.unchanged c.self.view_is

pub returns-clause-steps : goal.returns-clause-steps
returns-clause-steps g c h few =
    let same : length c.self.inside.marks ≡ length c.args.self.now = sym (length-map mark_of c.self.inside.marks) ∙ ap length c.self.view_is in
    subst (λ n. 5 * c.add.new.steps ≤ 5 * c.args.steps.now + ((n + 1) + 5 * (200 * (h + 1)))) same (c.add.ensures.steps h (omega (arith, few, same)))
