use Rattle.std.proofs.Common.{◌≡◌, ◌-◌, ◌≤◌, ◌<◌, ℕ, true, false}
use Rattle.cell_units.specs.declared.place.Bias.TheVariants.{Left}
use Rattle.cell_units.specs.Text.{is_boundary}
use Rattle.plain_rows.specs.Spots.{show}
use Rattle.plain_rows.specs.inside.SpotOffsets.{IsOffsetAt}
use Rattle.plain_rows.specs.inside.SpotSearch.{stands_before}
use Rattle.plain_rows.proofs.spots.offsets.first_offset.Given as goal

abbrev pub invariant-loop-offset : goal.invariant-loop-offset
invariant-loop-offset g l =
    let r = g.R.SpotRows.kept l.rows in
    record {
      none : (o : ℕ) → o < l.offset → IsOffsetAt r l.bias l.aim.spot o → ⊥;
      after : (o : ℕ) → l.offset ≤ o → is_boundary r.text o ≡ true → stands_before Left (show r o l.bias) l.aim.spot ≡ false;
      counted : l.initial.steps ≤ l.steps;
    }

abbrev pub decreases-loop-offset : goal.decreases-loop-offset
decreases-loop-offset g l = l.end - l.offset
