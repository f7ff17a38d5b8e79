use Rattle.std.proofs.Common.{◌≡◌, ◌+◌, ◌-◌, ◌≤◌, ◌<◌, ℕ, false, length}
use Rattle.cell_units.specs.Text.{is_boundary}
use Rattle.plain_rows.proofs.spots.searching.boundary_from.Given as goal

abbrev pub invariant-loop-offset : goal.invariant-loop-offset
invariant-loop-offset g l = record {
  order : l.fn.offset ≤ l.offset;
  none : (o : ℕ) → l.fn.offset ≤ o → o < l.offset → is_boundary (g.R.SpotRows.kept l.rows).text o ≡ false;
  counted : l.initial.steps ≤ l.steps;
}

abbrev pub decreases-loop-offset : goal.decreases-loop-offset
decreases-loop-offset g l = length (g.R.SpotRows.kept l.rows).text + 1 - l.offset
