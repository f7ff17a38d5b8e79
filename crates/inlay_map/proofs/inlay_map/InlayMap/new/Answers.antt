use Rattle.std.proofs.Common.{◌∙◌, None, sym, subst}
use Rattle.cell_units.specs.Layers.{Source}
use Rattle.inlay_map.specs.Kept.{IsKept}
use Rattle.inlay_map.proofs.MapStates.{kept-none}
use Rattle.inlay_map.proofs.inlay_map.InlayMap.new.Goals as goal

pub invariant_of-result : goal.invariant_of-result
invariant_of-result c = subst (λ (s : Source). IsKept c.plain-current.result s None) (sym c.in_ok-shown.ensures) (kept-none c.plain-current.result)

pub returns-clause-ok : goal.returns-clause-ok
returns-clause-ok c =
    let plain = c.plain-current.ensures in
    λ i. record { current = plain i; shown = (c.in_ok-shown.ensures ∙ plain) i; pending = None }
