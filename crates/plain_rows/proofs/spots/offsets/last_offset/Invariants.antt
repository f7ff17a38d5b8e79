use Rattle.std.proofs.Common.{◌≡◌, ◌-◌, ◌≤◌, ◌<◌, ℕ, true}
use Rattle.cell_units.specs.declared.place.Bias.TheVariants.{Right}
use Rattle.cell_units.specs.Text.{is_boundary}
use Rattle.plain_rows.specs.Spots.{show}
use Rattle.plain_rows.specs.inside.SpotOffsets.{IsOffsetAt}
use Rattle.plain_rows.specs.inside.SpotSearch.{stands_before}
use Rattle.plain_rows.proofs.spots.offsets.last_offset.Given as goal

abbrev pub invariant-loop-end : goal.invariant-loop-end
invariant-loop-end g l =
    let r = g.R.SpotRows.kept l.rows in
    record {
      none : (o : ℕ) → l.end ≤ o → IsOffsetAt r l.bias l.aim.spot o → ⊥;
      before : (o : ℕ) → o < l.end → is_boundary r.text o ≡ true → stands_before Right (show r o l.bias) l.aim.spot ≡ true;
      counted : l.initial.steps ≤ l.steps;
    }

abbrev pub decreases-loop-end : goal.decreases-loop-end
decreases-loop-end g l = l.end - l.start
