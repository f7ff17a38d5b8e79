use Rattle.std.proofs.Common.{◌∙◌, option_map, None, sym, subst}
use Rattle.cell_units.specs.Layers.{Source}
use Rattle.edit_patch.specs.Leads.{reach_of}
use Rattle.fold_map.specs.Maps.{IsKept}
use Rattle.fold_map.specs.Synced.{IsSynced}
use Rattle.fold_map.proofs.StateMaps.{kept-none}
use Rattle.fold_map.proofs.fold_map.FoldMap.sync.Goals as goal

pub invariant_of-self : goal.invariant_of-self
invariant_of-self g c = subst (λ (s : Source). IsKept c.in_ok-next.next s None) (sym c.in_ok-shown.ensures) (kept-none c.in_ok-next.next)

pub returns-clause-synced : goal.returns-clause-synced
returns-clause-synced g c =
    subst (λ (s : Source). IsSynced (g.L.Layer.source c.args.layer) (option_map reach_of c.args.shift) (option_map reach_of c.args.below) c.args.self.now s (option_map reach_of c.in_ok-next.answer)) (sym c.in_ok-answered.ensures) c.in_ok-next.ensures.synced

pub returns-clause-ok : goal.returns-clause-ok
returns-clause-ok g c =
    let next = c.in_ok-next.ensures.synced.made_is in
    λ i. record { current = next i; shown = (c.in_ok-shown.ensures ∙ next) i; pending = None }
