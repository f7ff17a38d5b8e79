use Rattle.cell_units.specs.Record.{block_le}
use Rattle.plain_rows.specs.Plain.{block_of}
use Rattle.display_sheet.proofs.Entries.{IsPlace}
use Rattle.display_sheet.proofs.blocks.put_in.Given as goal

abbrev pub invariant-loop-at : goal.invariant-loop-at
invariant-loop-at l = IsPlace block_of block_le l.falling.items l.block l.at

abbrev pub decreases-loop-at : goal.decreases-loop-at
decreases-loop-at l = l.at
