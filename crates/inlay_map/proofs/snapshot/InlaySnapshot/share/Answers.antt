use Rattle.std.proofs.Common.{◌∙◌, ap, sym}
use Rattle.cell_units.specs.Layers.{Source}
use Rattle.inlay_map.specs.Splices.{splices_from}
use Rattle.inlay_map.proofs.snapshot.InlaySnapshot.share.Goals as goal

pub invariant_of-result : goal.invariant_of-result
invariant_of-result c = c.in_ok-splices.ensures ∙ c.self.invariant ∙ ap (λ (s : Source). splices_from s.text 0 s.inlays) (sym c.in_ok-inlaid.ensures)

pub returns : goal.returns
returns c = c.in_ok-inlaid.ensures ∙ c.self.view_is
