use Rattle.plain_rows.proofs.SpotBlocks.{HasStood}
use Rattle.display_sheet.proofs.sheet.Sheet.block_rows.Given as goal

abbrev pub invariant-loop-number : goal.invariant-loop-number
invariant-loop-number l = HasStood l.self l.side l.number l.rows.items
