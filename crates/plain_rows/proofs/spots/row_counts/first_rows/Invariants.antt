use Rattle.plain_rows.specs.Plain.{record_of}
use Rattle.plain_rows.proofs.SpotSizes.{HasRowsUpto}
use Rattle.plain_rows.proofs.spots.row_counts.first_rows.Given as goal

abbrev pub invariant-loop-line : goal.invariant-loop-line
invariant-loop-line l = HasRowsUpto (record_of l.plain) l.line l.rows.items l.row
