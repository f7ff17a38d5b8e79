use Rattle.plain_rows.proofs.SpotSizes.{HasRowsUpto}
use Rattle.display_sheet.proofs.sheet.Sheet.first_rows.Given as goal

abbrev pub invariant-loop-line : goal.invariant-loop-line
invariant-loop-line l = HasRowsUpto l.self l.line l.rows.items l.row
