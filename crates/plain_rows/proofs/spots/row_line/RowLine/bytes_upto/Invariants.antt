use Rattle.plain_rows.proofs.spots.row_line.RowLine.bytes_upto.Given as goal

abbrev pub invariant-loop-number : goal.invariant-loop-number
invariant-loop-number l = Unit {0}
