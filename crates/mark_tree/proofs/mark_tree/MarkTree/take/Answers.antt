use Rattle.std.proofs.Common.{◌≡◌, ◌+◌, ◌++◌, ◌∙◌, ap, sym, subst, length, map, take, drop, IfOk, OnOk, Some, arith}
use Rattle.std.specs.List.{All, slice_get}
use Rattle.std.proofs.lemmas.List.Elements.{All-append, All-take, All-drop}
use Rattle.mark_tree.specs.Views.{mark_of}
use Rattle.mark_tree.proofs.MarkViews.{IsFlat, slice_get-of, without-of}
use Rattle.mark_tree.proofs.Moved.{length-map}
use Rattle.mark_tree.proofs.Splicing.{either}
use Rattle.mark_tree.proofs.mark_tree.MarkTree.take.Goals as goal
use Rattle.mark_tree.proofs.mark_tree.MarkTree.take.Goals.{in-Ok, in-Err}

pub take_at-requires-clause-ordered : goal.take_at-requires-clause-ordered
take_at-requires-clause-ordered g c = c.self.invariant.ordered

pub take_at-requires-clause-within : goal.take_at-requires-clause-within
take_at-requires-clause-within g c = omega (arith, c.requires, length-map mark_of c.self.inside.marks, ap length c.self.view_is)

pub invariant_of-self : goal.invariant_of-self
invariant_of-self g c =
    let ps = c.self.inside.marks in
    let at = c.args.at in
    let flat = c.self.invariant.flat in
    let rest = All-append IsFlat (take at ps) (drop (at + 1) ps) (All-take IsFlat at ps flat) (All-drop IsFlat (at + 1) ps flat) in
    record {
      flat = either (All IsFlat) c.take_at.result c.take_at.new.self (take at ps ++ drop (at + 1) ps) ps c.take_at.ensures.ok c.take_at.ensures.unchanged rest flat;
      ordered = c.take_at.ensures.ordered;
    }

pub returns-clause-ok : goal.returns-clause-ok
returns-clause-ok g c =
    let at = c.args.at in
    let X : Type 0 = map mark_of c.take_at.new.self ≡ take at c.args.self.now ++ drop (at + 1) c.args.self.now in
    elim c.match-take_at.branch [
      | in-Ok w ↦ subst (λ r. OnOk r X) (sym w.result-is) (ap (map mark_of) w.in-Ok.ensures.ok ∙ without-of at c.self.inside.marks ∙ ap (λ l. take at l ++ drop (at + 1) l) c.self.view_is)
      | in-Err w ↦ subst (λ r. OnOk r X) (sym w.result-is) tt
    ]

pub returns-clause-mark : goal.returns-clause-mark
returns-clause-mark g c =
    elim c.match-take_at.branch [
      | in-Ok w ↦ subst (λ r. IfOk r (λ m. slice_get c.args.self.now c.args.at ≡ Some m)) (sym w.result-is)
          (ap (λ l. slice_get l c.args.at) (sym c.self.view_is) ∙ slice_get-of c.self.inside.marks c.args.at w.in-Ok.thing w.in-Ok.ensures.thing)
      | in-Err w ↦ subst (λ r. IfOk r (λ m. slice_get c.args.self.now c.args.at ≡ Some m)) (sym w.result-is) tt
    ]
