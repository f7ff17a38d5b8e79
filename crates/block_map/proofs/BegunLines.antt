-- The last line of which the text rows begin at or before a row.
use Rattle.std.proofs.Common.{◌≡◌, ℕ, ◌+◌, ◌-◌, ◌<◌, ◌≤◌, [], length, subst, inl, inr, arith}
use Rattle.std.proofs.lemmas.Bool.{cases_lt}
use Rattle.cell_units.specs.Rows.{line_rows, rows_before}
use Rattle.block_map.specs.Between.{Between, IsLastBegun, place_of_row}
use Rattle.block_map.specs.Stops.{texts_at}
use Rattle.block_map.specs.inside.Zones.{IsBetween, IsInZone, zone_start}
use Rattle.block_map.proofs.LineStarts.{rows_before-next, rows_before-rises}
use Rattle.block_map.proofs.RowsInZones.{text-zone}
use Rattle.block_map.proofs.ZoneStarts.{zones-rise}

-- the row lies in the zone of a text row of the line
module _ (b : Between) (is : IsBetween b) (row t at line k : ℕ) (z : IsInZone b row t at) (within : line < length b.lines) (few : k < length (line_rows b.lines line)) (same : rows_before b.lines line + k ≡ t) where
  -- where the text rows of a line begin
  start : (l : ℕ) (lt : l < length b.lines) → IsInZone b (place_of_row b l 0) (rows_before b.lines l + 0) (length (texts_at (rows_before b.lines l + 0) b.above))
  start l lt = text-zone b is l 0 lt (omega (arith, is.rows l [] lt))

  later : (l : ℕ) → line < l → l < length b.lines → row < place_of_row b l 0
  later l more lt =
      let next : t + 1 ≤ rows_before b.lines l + 0 = omega (arith, same, few, rows_before-next b.lines line within, rows_before-rises b.lines (line + 1) l (omega arith)) in
      omega (arith, z.end, (start l lt).start, zones-rise b (t + 1) (rows_before b.lines l + 0) next)

  -- a line of which a later text row is in that zone begins before it
  sooner : (l : ℕ) (lt : l < length b.lines) → rows_before b.lines l < t → place_of_row b l 0 ≤ row
  sooner l lt less =
      omega (arith, z.start, (start l lt).end, zones-rise b (rows_before b.lines l + 0 + 1) t (omega arith))

  earlier : (l : ℕ) → l < line → place_of_row b l 0 ≤ row
  earlier l less =
      let lt : l < length b.lines = omega (arith, within) in
      sooner l lt (omega (arith, same, is.rows l [] lt, rows_before-next b.lines l lt, rows_before-rises b.lines (l + 1) line (omega arith)))

  -- where its first text row is there, what is above that is counted
  first : k ≡ 0 → zone_start b t + length (texts_at t b.above) ≡ place_of_row b line 0
  first none =
      let e : rows_before b.lines line + 0 ≡ t = omega (arith, same, none) in
      subst (λ (n : ℕ). zone_start b n + length (texts_at n b.above) ≡ place_of_row b line 0) e (start line within).start

  pub begun-here : (0 < line → k ≡ 0 → length (texts_at t b.above) ≤ at) → IsLastBegun b row line
  begun-here above = record {
    within = within;
    begun = λ some. elim (cases_lt 0 k) [
      | inl more ↦ sooner line within (omega (arith, same, more))
      | inr none ↦ omega (arith, first (omega arith), above some (omega arith), z.start)
    ];
    behind = later;
  }

  pub begun-before : k ≡ 0 → 0 < line → at < length (texts_at t b.above) → IsLastBegun b row (line - 1)
  begun-before none some less = record {
    within = omega (arith, within);
    begun = λ more. earlier (line - 1) (omega arith);
    behind = λ l more lt. elim (cases_lt line l) [
      | inl far ↦ later l far lt
      | inr near ↦
          let e : line ≡ l = omega arith in
          subst (λ (n : ℕ). row < place_of_row b n 0) e (omega (arith, first none, z.start, less))
    ];
  }
