use Rattle.test_display.proofs.Typed.{is-lawful}
use Rattle.test_display.proofs.callers.a_short_line_is_one_row.Goals as goal

pub row_count-requires-clause-lawful : goal.row_count-requires-clause-lawful
row_count-requires-clause-lawful g c = is-lawful _ c.in_ok-plain.ensures
