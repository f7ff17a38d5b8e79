use Rattle.std.proofs.Common.{◌∙◌, ℕ, List, sym, subst}
use Rattle.block_map.specs.Maps.{BlockState, Kept}
use Rattle.block_map.specs.inside.TwoSides.{IsState}
use Rattle.block_map.proofs.block_map.BlockMap.share.Goals as goal

state : List (List (List ℕ)) → List Kept → List Kept → BlockState
state lines above below = record { lines = lines; above = above; below = below }

pub invariant_of-result : goal.invariant_of-result
unfolding state
invariant_of-result g c = subst IsState (λ i. state (sym c.in_ok-rows.ensures i) (sym c.in_ok-above.ensures i) (sym c.in_ok-below.ensures i)) c.self.invariant

pub returns : goal.returns
unfolding state
returns g c = (λ i. state (c.in_ok-rows.ensures i) (c.in_ok-above.ensures i) (c.in_ok-below.ensures i)) ∙ c.self.view_is
