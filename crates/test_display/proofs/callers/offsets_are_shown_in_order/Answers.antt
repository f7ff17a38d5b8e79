use Rattle.test_display.proofs.Typed.{at-end, behind-name, is-lawful}
use Rattle.test_display.proofs.callers.offsets_are_shown_in_order.Goals as goal

pub shown_in_order-requires-clause-lawful : goal.shown_in_order-requires-clause-lawful
shown_in_order-requires-clause-lawful g c = is-lawful _ c.in_ok-plain.ensures

pub shown_in_order-requires-clause-boundaries : goal.shown_in_order-requires-clause-boundaries
shown_in_order-requires-clause-boundaries g c = (behind-name _ c.in_ok-plain.ensures, at-end _ c.in_ok-plain.ensures)
