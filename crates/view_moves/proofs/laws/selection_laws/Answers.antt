use Rattle.view_moves.proofs.Spans.{selection-any_order, selection-of_one, selection-rises, selection-within}
use Rattle.view_moves.proofs.laws.selection_laws.Goals as goal

pub returns-clause-any_order : goal.returns-clause-any_order
returns-clause-any_order c = selection-any_order

pub returns-clause-spans_rise : goal.returns-clause-spans_rise
returns-clause-spans_rise c = selection-rises

pub returns-clause-spans_are_valid : goal.returns-clause-spans_are_valid
returns-clause-spans_are_valid c = selection-within

pub returns-clause-of_one : goal.returns-clause-of_one
returns-clause-of_one c = selection-of_one
