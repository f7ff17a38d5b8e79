use Rattle.std.proofs.Common.{◌≡◌, ◌∙◌, ℕ, List, ap, sym}
use Rattle.cell_units.specs.Layers.{Source, inlay_source}
use Rattle.inlay_map.specs.Splices.{splices_from}
use Rattle.inlay_map.proofs.snapshot.InlaySnapshot.over.Goals as goal

pub over-requires : goal.over-requires
over-requires c = c.requires ∙ ap (λ (s : Source). s.text) (sym c.self.view_is)

pub invariant_of-result : goal.invariant_of-result
invariant_of-result c =
    let s = c.self.inside.inlaid in
    let text : s.text ≡ c.args.rope = ap (λ (v : Source). v.text) c.self.view_is ∙ sym c.requires in
    c.in_ok-splices.ensures
    ∙ c.self.invariant
    ∙ ap (λ (t : List ℕ). splices_from t 0 s.inlays) text
    ∙ ap (λ (v : Source). splices_from v.text 0 v.inlays) (sym c.in_ok-inlaid.ensures)

pub returns : goal.returns
returns c = c.in_ok-inlaid.ensures ∙ ap (λ (s : Source). inlay_source c.args.rope s.inlays) c.self.view_is
