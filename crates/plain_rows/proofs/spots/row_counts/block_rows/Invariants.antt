use Rattle.plain_rows.specs.Plain.{record_of}
use Rattle.plain_rows.proofs.SpotBlocks.{HasStood}
use Rattle.plain_rows.proofs.spots.row_counts.block_rows.Given as goal

abbrev pub invariant-loop-number : goal.invariant-loop-number
invariant-loop-number l = HasStood (record_of l.plain) l.side l.number l.rows.items
