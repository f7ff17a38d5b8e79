-- The place of a row at which a zone begins, as a look at another zone gives it.
use Rattle.std.proofs.Common.{◌≡◌, ℕ, ◌+◌, ◌-◌, ◌<◌, ◌≤◌, inl, inr, length, arith}
use Rattle.std.proofs.lemmas.Bool.{cases_lt}
use Rattle.cell_units.specs.Rows.{all_rows}
use Rattle.cell_units.specs.declared.place.Bias.TheVariants.{Left}
use Rattle.block_map.specs.declared.snapshot.ZoneStart.{ZoneStart}
use Rattle.block_map.specs.Between.{Between, rows_between}
use Rattle.block_map.specs.Stops.{rows_upto}
use Rattle.block_map.specs.inside.Seekings.{IsZoneStart}
use Rattle.block_map.specs.inside.Zones.{IsBetween, IsInZone, zone}
use Rattle.block_map.proofs.RowsInZones.{all-zones}
use Rattle.block_map.proofs.ZoneStarts.{length-zone, upto-before_next, zone-next, zones-rise}

module _ (b : Between) (t row u : ℕ) (z : ZoneStart) (is : IsZoneStart b t z) (from : z.from ≤ u) (to : u < z.to) (begins : u + z.blocks ≡ row) where
  pub told-zone : IsBetween b → row < length (rows_between b) → IsInZone b row u 0
  told-zone lawful lt = record {
    there = elim (cases_lt u (length (all_rows b.lines))) [
      | inl few ↦ few
      | inr past ↦ absurd (omega (arith, zones-rise b (length (all_rows b.lines)) u past, all-zones b lawful, is.same_blocks u from to, begins, lt))
    ];
    start = omega (arith, is.same_blocks u from to, begins);
    end = omega (arith, zone-next b u, length-zone b u, is.same_blocks u from to, begins);
  }

  pub told-below : z.blocks - z.above ≡ rows_upto Left (u + 1) b.below
  told-below = omega (arith, is.same_blocks u from to, is.same_above u from to, upto-before_next u b.below)

  pub told-plain : u + 1 < z.to → length (zone b u) ≡ 1
  told-plain more = omega (arith, zone-next b u, is.same_blocks u from to, is.same_blocks (u + 1) (omega (arith, from)) more)
