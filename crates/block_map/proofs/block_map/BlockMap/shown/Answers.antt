use Rattle.std.proofs.Common.{◌∙◌, ◌+◌, ◌<◌, ◌^◌, ℕ, List, length, sym, ap, subst}
use Rattle.cell_units.specs.Rows.{all_rows}
use Rattle.block_map.specs.Between.{Between}
use Rattle.block_map.specs.Follows.{block_height}
use Rattle.block_map.specs.Maps.{BlockState, Kept}
use Rattle.block_map.specs.Stops.{Stop}
use Rattle.block_map.specs.inside.ShownStops.{AreShown, shown_between}
use Rattle.block_map.specs.inside.Zones.{IsBetween}
use Rattle.block_map.proofs.ShownStops.{are-between}
use Rattle.block_map.proofs.block_map.BlockMap.shown.Goals as goal

abbrev state : List (List (List ℕ)) → List Kept → List Kept → BlockState
state lines above below = record { lines = lines; above = above; below = below }

abbrev between : List (List (List ℕ)) → List Stop → List Stop → Between
between lines above below = record { lines = lines; above = above; below = below }

pub shown_stops-requires : goal.shown_stops-requires
shown_stops-requires g c = subst (λ (s : BlockState). AreShown s.above) (sym c.self.view_is) c.requires.above

pub shown_stops-requires-2 : goal.shown_stops-requires-2
shown_stops-requires-2 g c = subst (λ (s : BlockState). AreShown s.below) (sym c.self.view_is) c.requires.below

pub invariant_of-result : goal.invariant_of-result
invariant_of-result g c =
    let s : BlockState = state (g.R.Rows.shown c.self.inside.rows) c.self.inside.above c.self.inside.below in
    let above = subst (λ (s : BlockState). AreShown s.above) (sym c.self.view_is) c.requires.above in
    let below = subst (λ (s : BlockState). AreShown s.below) (sym c.self.view_is) c.requires.below in
    let sizes = subst (λ (s : BlockState). length (all_rows s.lines) + (block_height s.above + block_height s.below) < 2 ^ 32) (sym c.self.view_is) c.requires.sizes in
    subst IsBetween (λ i. between (sym c.in_ok-share.ensures i) (sym c.in_ok-shown_stops.ensures i) (sym c.in_ok-shown_stops-2.ensures i))
    (are-between s c.self.invariant c.lines-lines.ensures.rows above below sizes)

pub returns : goal.returns
returns g c = (λ i. between (c.in_ok-share.ensures i) (c.in_ok-shown_stops.ensures i) (c.in_ok-shown_stops-2.ensures i)) ∙ ap shown_between c.self.view_is
