use Rattle.std.proofs.Common.{◌≡◌, ◌+◌, ◌<◌, ◌++◌, ◌∙◌, ap, sym, subst, length, map, take, drop, ℕ, Result, IfOk, OnOk, Some, refl, arith}
use Rattle.cell_units.specs.Record.{Inlay}
use Rattle.cell_units.specs.declared.fault.NoMemory.{NoMemory}
use Rattle.std.specs.List.{slice_get}
use Rattle.cell_units.specs.Lawful.{AreInlays}
use Rattle.cell_units.specs.Layers.{Source, inlay_source}
use Rattle.mark_tree.proofs.Splicing.{either}
use Rattle.inlay_map.specs.Splices.{inlay_of, without_at}
use Rattle.inlay_map.proofs.FoundInlays.{get-inlay}
use Rattle.inlay_map.proofs.InlayMarks.{taken-are, taken-at}
use Rattle.inlay_map.proofs.StepSums.{marks-count}
use Rattle.inlay_map.proofs.inlaid.Inlaid.take.Goals as goal
use Rattle.inlay_map.proofs.inlaid.Inlaid.take.Goals.{in-Ok, in-Err}

some-same : {X : Type 0} (x y : X) → Some x ≡ Some y → x ≡ y
some-same x y p = cc

pub take-requires : goal.take-requires
take-requires c = omega (arith, c.requires, marks-count c.self.inside.rope c.self.inside.marks c.args.self.now c.self.view_is)

pub invariant_of-self : goal.invariant_of-self
invariant_of-self c =
    let ms = c.self.inside.marks in
    let rope = c.self.inside.rope in
    let at = c.args.at in
    let rest = take at ms ++ drop (at + 1) ms in
    let lt = subst (λ (s : Source). at < length s.inlays) (sym c.self.view_is) c.requires in
    either (λ l. AreInlays rope (map inlay_of l)) c.take.result c.take.new.self rest ms c.take.ensures.ok c.take.ensures.unchanged
    (subst (AreInlays rope) (sym (taken-at ms rest at refl)) (taken-are rope at (map inlay_of ms) lt c.self.invariant)) c.self.invariant

pub returns-clause-ok : goal.returns-clause-ok
returns-clause-ok c =
    let at = c.args.at in
    let X : Type 0 = inlay_source c.self.inside.rope (map inlay_of c.take.new.self) ≡ inlay_source c.args.self.now.text (without_at at c.args.self.now.inlays) in
    elim c.match-take.branch [
      | in-Ok w ↦ subst (λ r. OnOk r X) (sym w.result-is)
          (λ i. inlay_source (c.self.view_is i).text ((taken-at c.self.inside.marks c.take.new.self at w.in-Ok.ensures.ok ∙ ap (λ (s : Source). without_at at s.inlays) c.self.view_is) i))
      | in-Err w ↦ subst (λ r. OnOk r X) (sym w.result-is) tt
    ]

pub returns-clause-offset : goal.returns-clause-offset
returns-clause-offset c =
    let at = c.args.at in
    let P = λ (r : Result ℕ NoMemory). IfOk r (λ o. (i : Inlay) → slice_get c.args.self.now.inlays at ≡ Some i → i.offset ≡ o) in
    elim c.match-take.branch [
      | in-Ok w ↦ subst P (sym w.result-is)
          (λ i is. let here = get-inlay c.self.inside.marks at w.in-Ok.mark w.in-Ok.ensures.mark in
          let same = some-same (inlay_of w.in-Ok.mark) i (sym here ∙ ap (λ (s : Source). slice_get s.inlays at) c.self.view_is ∙ is) in
          ap (λ (j : Inlay). j.offset) (sym same))
      | in-Err w ↦ subst P (sym w.result-is) tt
    ]

pub returns-clause-steps : goal.returns-clause-steps
returns-clause-steps c h lt =
    let same = marks-count c.self.inside.rope c.self.inside.marks c.args.self.now c.self.view_is in
    omega (arith, c.take.ensures.steps h (omega (arith, lt, same)))
