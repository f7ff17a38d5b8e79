use Rattle.std.proofs.Common.{ℕ, List, sym, subst}
use Rattle.block_map.specs.Maps.{BlockState, Kept}
use Rattle.block_map.specs.inside.TwoSides.{IsState}
use Rattle.block_map.proofs.TwoSides.{state-of_none}
use Rattle.block_map.proofs.block_map.BlockMap.new.Goals as goal

state : List (List (List ℕ)) → List Kept → List Kept → BlockState
state lines above below = record { lines = lines; above = above; below = below }

pub invariant_of-result : goal.invariant_of-result
unfolding state
invariant_of-result g c = subst IsState (λ i. state (g.R.Rows.shown c.args.rows) (sym c.new.ensures i) (sym c.new-2.ensures i)) (state-of_none (g.R.Rows.shown c.args.rows))
