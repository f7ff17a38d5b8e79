use Rattle.std.proofs.Common.{◌≡◌, ◌∙◌, ℕ, List, map, ap, sym, subst}
use Rattle.cell_units.specs.Lawful.{AreInlays}
use Rattle.cell_units.specs.Layers.{Source, inlay_source}
use Rattle.mark_tree.specs.declared.mark.Mark.{Mark}
use Rattle.inlay_map.specs.Splices.{inlay_of}
use Rattle.inlay_map.proofs.inlaid.Inlaid.over.Goals as goal

pub invariant_of-result : goal.invariant_of-result
invariant_of-result c =
    let text : c.self.inside.rope ≡ c.args.rope = ap (λ (s : Source). s.text) c.self.view_is ∙ sym c.requires in
    subst (λ (t : List ℕ). AreInlays t (map inlay_of c.in_ok-share.field-0)) text
    (subst (λ (l : List (Mark (List ℕ))). AreInlays c.self.inside.rope (map inlay_of l)) (sym c.in_ok-share.ensures) c.self.invariant)

pub returns : goal.returns
returns c =
    ap (λ (l : List (Mark (List ℕ))). inlay_source c.args.rope (map inlay_of l)) c.in_ok-share.ensures
    ∙ ap (λ (s : Source). inlay_source c.args.rope s.inlays) c.self.view_is
