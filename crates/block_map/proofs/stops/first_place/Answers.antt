use Rattle.std.proofs.Common.{◌≡◌, ◌+◌, ◌≤◌, ◌↔◌, true, sym, subst}
use Rattle.cell_units.specs.declared.place.Bias.{Bias}
use Rattle.block_map.specs.Stops.{stands_before}
use Rattle.block_map.proofs.StopLooks.{from-left, from-right}
use Rattle.block_map.proofs.stops.first_place.Goals as goal

pub returns-in-Left : goal.returns-in-Left
returns-in-Left c t s is =
    subst (λ (bias : Bias). (c.args.row + 1 ≤ t) ↔ (stands_before bias t s ≡ true)) (sym c.in-Left.is) (from-left c.args.row t s is)

pub returns-in-Right : goal.returns-in-Right
returns-in-Right c t s is =
    subst (λ (bias : Bias). (c.args.row ≤ t) ↔ (stands_before bias t s ≡ true)) (sym c.in-Right.is) (from-right c.args.row t s is)
