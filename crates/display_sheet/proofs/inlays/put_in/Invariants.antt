use Rattle.cell_units.specs.Record.{inlay_le}
use Rattle.plain_rows.specs.Plain.{inlay_of}
use Rattle.display_sheet.proofs.Entries.{IsPlace}
use Rattle.display_sheet.proofs.inlays.put_in.Given as goal

abbrev pub invariant-loop-at : goal.invariant-loop-at
invariant-loop-at l = IsPlace inlay_of inlay_le l.falling.items l.inlay l.at

abbrev pub decreases-loop-at : goal.decreases-loop-at
decreases-loop-at l = l.at
