use Rattle.std.proofs.Common.{◌∙◌, ℕ, List, map, sym, subst}
use Rattle.cell_units.specs.Lawful.{AreInlays}
use Rattle.cell_units.specs.Layers.{inlay_source}
use Rattle.mark_tree.specs.declared.mark.Mark.{Mark}
use Rattle.inlay_map.specs.Splices.{inlay_of}
use Rattle.inlay_map.proofs.inlaid.Inlaid.share.Goals as goal

pub invariant_of-result : goal.invariant_of-result
invariant_of-result c =
    subst (λ (t : List ℕ). AreInlays t (map inlay_of c.in_ok-marks.marks)) (sym c.in_ok-rope.ensures)
    (subst (λ (l : List (Mark (List ℕ))). AreInlays c.self.inside.rope (map inlay_of l)) (sym c.in_ok-marks.ensures) c.self.invariant)

pub returns : goal.returns
returns c = (λ i. inlay_source (c.in_ok-rope.ensures i) (map inlay_of (c.in_ok-marks.ensures i))) ∙ c.self.view_is
