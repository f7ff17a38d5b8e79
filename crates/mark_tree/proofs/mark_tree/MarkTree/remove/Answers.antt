use Rattle.std.proofs.Common.{◌≡◌, ◌+◌, ◌++◌, ◌∙◌, not, ap, sym, subst, map, filter, take, drop, IfErr, IfOk, OnOk, Some}
use Rattle.std.specs.List.{All, list_any, slice_get}
use Rattle.cell_units.specs.declared.fault.Refusal.TheVariants.{UnknownId}
use Rattle.mark_tree.specs.Marks.{IsRefusedFor, has_id, lacks_id}
use Rattle.mark_tree.specs.Order.{lacks_placed_id}
use Rattle.mark_tree.specs.Views.{mark_of}
use Rattle.mark_tree.proofs.MarkViews.{IsFlat, any-of, filter-of, slice_get-of, without-of}
use Rattle.mark_tree.proofs.Splicing.{either}
use Rattle.mark_tree.proofs.mark_tree.MarkTree.remove.Goals as goal
use Rattle.mark_tree.proofs.mark_tree.MarkTree.remove.Goals.{in-Ok, in-Err}
use Rattle.std.proofs.lemmas.List.Elements.{All-filter}

pub take_id-requires : goal.take_id-requires
take_id-requires g c = record { ordered = c.self.invariant.ordered }

pub invariant_of-self : goal.invariant_of-self
invariant_of-self g c =
    let ps = c.self.inside.marks in
    record {
      flat = either (All IsFlat) c.take_id.result c.take_id.new.self (filter (lacks_placed_id c.args.id) ps) ps c.take_id.ensures.ok c.take_id.ensures.unchanged (All-filter (lacks_placed_id c.args.id) IsFlat ps c.self.invariant.flat) c.self.invariant.flat;
      ordered = c.take_id.ensures.ordered;
    }

pub returns-clause-ok : goal.returns-clause-ok
returns-clause-ok g c =
    let X : Type 0 = map mark_of c.take_id.new.self ≡ filter (lacks_id c.args.id) c.args.self.now in
    elim c.match-take_id.branch [
      | in-Ok w ↦ subst (λ r. OnOk r X) (sym w.result-is) (ap (map mark_of) w.in-Ok.ensures.ok ∙ filter-of c.args.id c.self.inside.marks ∙ ap (filter (lacks_id c.args.id)) c.self.view_is)
      | in-Err w ↦ subst (λ r. OnOk r X) (sym w.result-is) tt
    ]

pub returns-clause-mark : goal.returns-clause-mark
returns-clause-mark g c =
    let ps = c.self.inside.marks in
    elim c.match-take_id.branch [
      | in-Ok w ↦ subst (λ r. IfOk r (λ q. slice_get c.args.self.now q.0 ≡ Some q.1)) (sym w.result-is)
          (ap (λ l. slice_get l w.in-Ok.taken.place) (sym c.self.view_is) ∙ slice_get-of ps w.in-Ok.taken.place w.in-Ok.taken.thing w.in-Ok.ensures.thing)
      | in-Err w ↦ subst (λ r. IfOk r (λ q. slice_get c.args.self.now q.0 ≡ Some q.1)) (sym w.result-is) tt
    ]

pub returns-clause-rest : goal.returns-clause-rest
returns-clause-rest g c =
    let ps = c.self.inside.marks in
    elim c.match-take_id.branch [
      | in-Ok w ↦ subst (λ r. IfOk r (λ q. map mark_of c.take_id.new.self ≡ take q.0 c.args.self.now ++ drop (q.0 + 1) c.args.self.now)) (sym w.result-is)
          (ap (map mark_of) w.in-Ok.ensures.rest ∙ without-of w.in-Ok.taken.place ps ∙ ap (λ l. take w.in-Ok.taken.place l ++ drop (w.in-Ok.taken.place + 1) l) c.self.view_is)
      | in-Err w ↦ subst (λ r. IfOk r (λ q. map mark_of c.take_id.new.self ≡ take q.0 c.args.self.now ++ drop (q.0 + 1) c.args.self.now)) (sym w.result-is) tt
    ]

pub returns-clause-refused : goal.returns-clause-refused
returns-clause-refused g c =
    let cause = ap not (any-of c.args.id c.self.inside.marks ∙ ap (list_any (has_id c.args.id)) c.self.view_is) in
    elim c.match-take_id.branch [
      | in-Ok w ↦ subst (λ r. IfErr r (IsRefusedFor UnknownId (not (list_any (has_id c.args.id) c.args.self.now)))) (sym w.result-is) tt
      | in-Err w ↦ subst (λ r. IfErr r (IsRefusedFor UnknownId (not (list_any (has_id c.args.id) c.args.self.now)))) (sym w.result-is)
          (subst (λ b. IsRefusedFor UnknownId b w.in-Err.fault) cause w.in-Err.ensures.refused)
    ]
