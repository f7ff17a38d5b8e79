use Rattle.cell_units.specs.Record.{fold_le}
use Rattle.plain_rows.specs.Plain.{fold_of}
use Rattle.display_sheet.proofs.Entries.{IsPlace}
use Rattle.display_sheet.proofs.folds.put_in.Given as goal

abbrev pub invariant-loop-at : goal.invariant-loop-at
invariant-loop-at l = IsPlace fold_of fold_le l.falling.items l.fold l.at

abbrev pub decreases-loop-at : goal.decreases-loop-at
decreases-loop-at l = l.at
