use Rattle.undo_line.proofs.Inverses.{entries-texts, inverse-holds, inverse-leads, inverse-operations, inverse-ranges, inverse-text, leads-accepted, leads-done, length-inverse}
use Rattle.std.proofs.Common.{[]}
use Rattle.std.specs.List.{filter}
use Rattle.display_sheet.specs.Changes.{is_operation}
use Rattle.undo_line.proofs.laws.inverse_laws.Goals as goal

pub returns-clause-ranges : goal.returns-clause-ranges
returns-clause-ranges c = inverse-ranges

pub returns-clause-text : goal.returns-clause-text
returns-clause-text c = inverse-text

pub returns-clause-leads : goal.returns-clause-leads
returns-clause-leads c = inverse-leads

pub returns-clause-holds : goal.returns-clause-holds
returns-clause-holds c = inverse-holds

pub returns-clause-gives : goal.returns-clause-gives
returns-clause-gives c text splices = entries-texts text [] (filter is_operation splices)

pub returns-clause-count : goal.returns-clause-count
returns-clause-count c = length-inverse

pub returns-clause-operations : goal.returns-clause-operations
returns-clause-operations c = inverse-operations

pub returns-clause-accepted : goal.returns-clause-accepted
returns-clause-accepted c = leads-accepted

pub returns-clause-done : goal.returns-clause-done
returns-clause-done c = leads-done
