use Rattle.std.proofs.Common.{◌∙◌, None, sym, subst}
use Rattle.cell_units.specs.Layers.{Source}
use Rattle.fold_map.specs.Maps.{IsKept}
use Rattle.fold_map.proofs.StateMaps.{kept-none}
use Rattle.fold_map.proofs.fold_map.FoldMap.new.Goals as goal

pub invariant_of-result : goal.invariant_of-result
invariant_of-result g c = subst (λ (s : Source). IsKept c.plain-current.result s None) (sym c.in_ok-shown.ensures) (kept-none c.plain-current.result)

pub returns-clause-ok : goal.returns-clause-ok
returns-clause-ok g c =
    let plain = c.plain-current.ensures in
    λ i. record { current = plain i; shown = (c.in_ok-shown.ensures ∙ plain) i; pending = None }
