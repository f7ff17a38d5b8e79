use Rattle.std.proofs.Common.{◌∙◌, option_map, sym, subst}
use Rattle.cell_units.specs.Layers.{Source}
use Rattle.edit_patch.specs.Leads.{reach_of}
use Rattle.inlay_map.specs.Kept.{IsKept}
use Rattle.inlay_map.proofs.inlay_map.InlayMap.share.Goals as goal

pub invariant_of-result : goal.invariant_of-result
invariant_of-result c =
    let pending = option_map reach_of c.self.inside.pending in
    subst (λ (s : Source). IsKept s c.in_ok-shown.shown pending) (sym c.in_ok-current.ensures)
    (subst (λ (s : Source). IsKept c.self.inside.current s pending) (sym c.in_ok-shown.ensures) c.self.invariant)

pub returns : goal.returns
returns c = (λ i. record { current = c.in_ok-current.ensures i; shown = c.in_ok-shown.ensures i; pending = option_map reach_of c.self.inside.pending }) ∙ c.self.view_is
