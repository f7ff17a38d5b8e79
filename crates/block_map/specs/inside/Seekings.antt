-- Where the zone of a row is sought, and what is known of it where it is found.
use Rattle.std.specs.Prelude.{◌≡◌, ℕ, ◌+◌, ◌<◌, ◌≤◌, IsTrue, length}
use Rattle.cell_units.specs.Rows.{all_rows}
use Rattle.cell_units.specs.declared.place.Bias.TheVariants.{Left}
use Rattle.block_map.specs.declared.snapshot.Place.{Place}
use Rattle.block_map.specs.declared.snapshot.ZoneStart.{ZoneStart}
use Rattle.block_map.specs.declared.window.Window.{Window}
use Rattle.block_map.specs.Between.{Between}
use Rattle.block_map.specs.Stops.{rows_upto}
use Rattle.block_map.specs.inside.Zones.{zone, zone_start}

-- The zone of the row is that of `low`, or of a text row from `next` on before `high`. Where text rows between `low`
-- and `next` are left out, it is none of these and not that of `low`.
pub record IsWindow (b : Between) (row : ℕ) (w : Window) : Type 0 where
  pub order : w.low < w.next
  pub some : w.next ≤ w.high
  pub within : w.high ≤ length (all_rows b.lines)
  pub begins : zone_start b w.low ≡ w.start
  pub above : w.above ≡ rows_upto Left w.low b.above
  pub before : w.start ≤ row
  pub behind : row < w.end
  pub ends : w.end ≤ zone_start b w.high
  pub left_out : w.low + 1 < w.next → zone_start b w.next ≤ row

-- What a look at a zone gives: the row at which it begins, and how many rows of blocks are before it. They are counted
-- on the side above lines and on both sides. There are as many before the zone of each text row from one on before
-- another.
pub record IsZoneStart (b : Between) (t : ℕ) (z : ZoneStart) : Type 0 where
  pub row : z.row ≡ zone_start b t
  pub blocks : zone_start b t ≡ t + z.blocks
  pub above : z.above ≡ rows_upto Left t b.above
  pub same_blocks : (u : ℕ) → z.from ≤ u → u < z.to → zone_start b u ≡ u + z.blocks
  pub same_above : (u : ℕ) → z.from ≤ u → u < z.to → rows_upto Left u b.above ≡ z.above

-- A place lies in a zone, and says how many rows the stops of each side have before their rows of that zone. A plain
-- zone has its text row alone.
pub record IsPlace (b : Between) (p : Place) : Type 0 where
  pub there : p.text_row < length (all_rows b.lines)
  pub above : p.above ≡ rows_upto Left p.text_row b.above
  pub below : p.below ≡ rows_upto Left (p.text_row + 1) b.below
  pub plain : IsTrue p.plain → length (zone b p.text_row) ≡ 1
