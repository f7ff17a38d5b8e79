use Rattle.std.proofs.Common.{◌≡◌, ◌+◌, ◌-◌, ◌≤◌, ◌<◌, ℕ, true, false, length}
use Rattle.cell_units.specs.Text.{is_boundary}
use Rattle.plain_rows.specs.Spots.{show}
use Rattle.plain_rows.specs.inside.SpotSearch.{stands_before}
use Rattle.plain_rows.proofs.spots.searching.count_before.Given as goal

abbrev pub invariant-loop-low : goal.invariant-loop-low
invariant-loop-low g l =
    let r = g.R.SpotRows.kept l.rows in
    record {
      order : l.low ≤ l.high;
      within : l.high ≤ length r.text + 1;
      before : (o : ℕ) → o < l.low → is_boundary r.text o ≡ true → stands_before l.side (show r o l.bias) l.aim.spot ≡ true;
      behind : (o : ℕ) → l.high ≤ o → is_boundary r.text o ≡ true → stands_before l.side (show r o l.bias) l.aim.spot ≡ false;
      counted : l.initial.steps ≤ l.steps;
    }

abbrev pub decreases-loop-low : goal.decreases-loop-low
decreases-loop-low g l = l.high - l.low
